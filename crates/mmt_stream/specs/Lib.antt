pub mod Consuming
pub mod Driving
pub mod Output
pub mod Streaming
