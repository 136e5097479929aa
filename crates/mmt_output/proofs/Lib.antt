pub mod Amounts
pub mod NextDue
pub mod Putting
pub mod Recording
pub mod Spread
