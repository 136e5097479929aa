pub mod Counted
pub mod Heard
pub mod Recorded
pub mod Taken
