-- The laws that stand for the definitions of `specs/` in the proofs of this crate and of its callers.
pub mod Handed
pub mod Joined
pub mod Opening
pub mod Records
pub mod Steps
pub mod Times
pub mod Walking
