pub mod Due
pub mod Notes
pub mod Records
