-- The ways through the checks of a capture.
pub mod Checks
