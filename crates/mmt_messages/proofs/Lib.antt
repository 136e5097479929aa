pub mod Messages
pub mod Headline
pub mod Fitting
pub mod Found
