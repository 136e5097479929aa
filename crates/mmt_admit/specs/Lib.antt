pub mod Faults
pub mod Calm
