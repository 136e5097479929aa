pub mod Schedule
pub mod Row
pub mod Lines
