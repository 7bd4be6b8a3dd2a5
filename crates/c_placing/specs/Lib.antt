-- How C is told a placing.
pub mod Placed
