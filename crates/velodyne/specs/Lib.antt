-- What a Velodyne capture means.
pub mod Velodyne
