pub mod Consumers
pub mod Exact
pub mod Framings
pub mod Histories
pub mod Outputs
pub mod Turns
