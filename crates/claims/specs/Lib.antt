-- The worked cases of the paper: calls with their input, and what each is to tell.
pub mod Call
pub mod Capture
pub mod Cases
pub mod Kitti
pub mod Livox
pub mod Padding
pub mod Placing
pub mod Row
pub mod Time
pub mod Velodyne
