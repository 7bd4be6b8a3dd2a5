-- The laws of packages, of frames and of the steps over them.
pub mod Packages
pub mod Frames
pub mod Coming
pub mod Inside
mod Steps
