pub mod Files
pub mod Calls
pub mod Carried
pub mod Holding
pub mod Writes
pub mod Held
pub mod Laws
