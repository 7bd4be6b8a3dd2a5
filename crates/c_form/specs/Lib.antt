-- What the C forms share.
pub mod Reading
