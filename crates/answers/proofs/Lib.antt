-- The laws that stand for the definitions of `specs/` in the proofs of this crate and of its callers.
pub mod Numbers
pub mod Passed
