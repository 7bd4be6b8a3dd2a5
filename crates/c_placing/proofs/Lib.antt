-- The laws of how C is told a placing.
pub mod Received
