pub mod Pieces
pub mod Given
pub mod Trials
