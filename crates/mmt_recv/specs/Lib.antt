pub mod Session
pub mod Noting
pub mod Receiving
pub mod Keeping
pub mod Taking
pub mod Saying
pub mod Places
pub mod Written
