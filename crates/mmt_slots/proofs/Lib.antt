pub mod Order
pub mod Rows
pub mod Counting
pub mod Naming
pub mod Pigeonhole
pub mod Crowding
pub mod Placing
pub mod Giving
pub mod Outcomes
pub mod Searching
pub mod Lining
pub mod Filling
mod Only
