-- The laws of a line's numbers, and of the line as bytes.
mod Bytes
mod Decimal
mod Lines
pub mod Short
