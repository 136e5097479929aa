pub mod Holding
pub mod Stored
pub mod Queue
pub mod Tied
pub mod Outcome
pub mod Doing
pub mod Sources
