-- The laws of opening a Livox file.
pub mod Opening
