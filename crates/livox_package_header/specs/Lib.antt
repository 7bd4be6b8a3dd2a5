-- What the header of a package in a Livox file says.
pub mod PackageHeader
