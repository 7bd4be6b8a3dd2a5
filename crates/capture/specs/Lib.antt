-- What a capture means: the payloads in order.
pub mod Joined
pub mod Payloads
pub mod Walked
