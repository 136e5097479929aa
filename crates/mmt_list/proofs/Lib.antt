pub mod Lines
pub mod Parts
pub mod Assets
pub mod Appended
