-- The laws that stand for the definitions of `specs/` in every proof, of this crate and of its callers.
mod Bytes
pub mod Laws
pub mod Opened
pub mod Signed
