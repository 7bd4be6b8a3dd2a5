-- The two Livox forms, their data types and encodings.
pub mod Form
