pub mod Walk
pub mod Law
pub mod Calls
pub mod Written
pub mod Places
