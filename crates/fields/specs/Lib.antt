-- What a number in a run of bytes is, and a signed one.
pub mod Number
pub mod Signed
