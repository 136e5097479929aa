pub mod Peaking
pub mod PeakingGrows
pub mod Buffers
pub mod Views
pub mod Commanding
