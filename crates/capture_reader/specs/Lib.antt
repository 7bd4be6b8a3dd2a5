-- What reading a capture means, for any kind of packet.
pub mod Reader
