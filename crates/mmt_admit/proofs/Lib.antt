pub mod Walking
pub mod Counting
pub mod Sliding
pub mod Keys
pub mod Chaining
pub mod Calming
