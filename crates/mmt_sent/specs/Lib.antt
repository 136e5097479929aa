pub mod Messages
pub mod Payloads
pub mod Packets
pub mod Stream
