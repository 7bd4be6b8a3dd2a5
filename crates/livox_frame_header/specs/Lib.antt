-- What the header of a frame in a Livox file says.
pub mod FrameHeader
