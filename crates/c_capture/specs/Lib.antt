-- What the C forms of the capture's calls give back.
pub mod Capture
