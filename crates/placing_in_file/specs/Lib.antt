-- Placing the point of a rank in a Livox file.
pub mod InFile
