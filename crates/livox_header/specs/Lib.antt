-- What the header of a Livox file tells.
pub mod Header
