-- The worked cases hold.
pub mod Cases
