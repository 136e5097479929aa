pub mod Noting
pub mod Gathering
pub mod Passing
pub mod PassingGrows
