pub mod Taking
pub mod TakingGrows
