-- What a case says, and what is told of a number.
pub mod Words
pub mod Pieces
pub mod Pattern
