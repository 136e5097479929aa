pub mod Begun
pub mod Taking
pub mod Names
pub mod Places
pub mod One
pub mod Several
pub mod Whole
