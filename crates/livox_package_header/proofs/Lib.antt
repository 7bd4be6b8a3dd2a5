-- The laws of a package at a place.
pub mod PackageHeader
