-- What a KITTI file means.
pub mod Kitti
