-- What an Ouster capture means.
pub mod Ouster
