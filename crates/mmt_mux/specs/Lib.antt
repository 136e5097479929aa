pub mod Sendable
pub mod Ending
pub mod Casts
pub mod Pacing
