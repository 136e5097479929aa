pub mod Checks
pub mod Castable
pub mod Holding
pub mod Sending
pub mod Paced
pub mod Complete
