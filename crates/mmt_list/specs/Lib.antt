pub mod Left
pub mod Line
pub mod Names
pub mod Services
pub mod Signalling
pub mod Text
