pub mod Hearing
pub mod Views
