pub mod Steps
pub mod Stores
pub mod Ends
pub mod Lines
