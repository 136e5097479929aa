pub mod Counting
pub mod Inserting
pub mod Newest
pub mod Outcomes
pub mod Parts
pub mod Preceding
pub mod Sessions
