-- What a Livox file means.
pub mod Livox
