-- The laws that stand for the definitions of `specs/` in the proofs of this crate.
mod Next
pub mod Walk
