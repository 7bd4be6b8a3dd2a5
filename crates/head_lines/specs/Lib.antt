-- The lister's line of what was read or refused.
pub mod Appended
pub mod HeadLines
