-- What settings that are not refused say of themselves.
pub mod Bounds
