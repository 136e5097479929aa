pub mod Cuts
pub mod Fragments
pub mod Laws
