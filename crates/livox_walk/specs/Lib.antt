-- Which frames and packages a Livox file has, and one step of the walk over them.
pub mod Packages
pub mod Frames
pub mod Steps
pub mod Events
