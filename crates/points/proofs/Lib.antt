-- The laws that stand for the definitions of `specs/` in every proof, of this crate and of its callers.
pub mod After
pub mod Lists
pub mod Parts
pub mod Progress
pub mod ReadInto
