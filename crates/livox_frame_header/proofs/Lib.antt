-- The laws of a frame at a place.
pub mod FrameHeader
