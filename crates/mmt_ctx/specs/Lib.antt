pub mod Spelling
pub mod Reading
pub mod Compressed
pub mod Headers
pub mod Squeezing
