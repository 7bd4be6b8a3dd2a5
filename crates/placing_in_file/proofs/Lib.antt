-- The laws of placing by file and rank.
pub mod Ranked
