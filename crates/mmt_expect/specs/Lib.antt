pub mod Heard
pub mod Reaches
pub mod Latest
pub mod Named
pub mod Found
