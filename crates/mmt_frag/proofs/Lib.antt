pub mod PartsJoined
pub mod Fitting
pub mod Gapless
pub mod Joining
