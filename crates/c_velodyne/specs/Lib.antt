-- How C numbers the Velodyne models.
pub mod Velodyne
