pub mod Findings
pub mod Begun
pub mod Lines
pub mod Places
