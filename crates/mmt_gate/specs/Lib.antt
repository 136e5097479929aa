pub mod Datagrams
pub mod Image
pub mod Expanding
pub mod Tables
pub mod Flows
pub mod Shrinking
pub mod Keeping
pub mod Promises
