pub mod Commands
pub mod Flows
pub mod Numbers
pub mod Reading
pub mod TakeWords
pub mod Words
