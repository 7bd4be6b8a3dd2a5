pub mod Conversions
pub mod Numbers
