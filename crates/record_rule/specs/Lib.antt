-- What a record means: its bytes, and the steps from them to its UDP payload, in each reading.
pub mod Captured
pub mod Ethernet
pub mod Ipv4
pub mod Reading
pub mod Record
pub mod Time
pub mod Udp
