-- How reading an input ends.
pub mod Ended
