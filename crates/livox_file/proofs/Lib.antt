-- The laws of a whole file.
pub mod ToCome
pub mod Counts
pub mod Reading
pub mod Progress
pub mod Forms
pub mod Laws
