pub mod Spelling
pub mod Reading
pub mod Head
pub mod Left
pub mod View
pub mod Writing
