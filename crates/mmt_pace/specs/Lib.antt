pub mod Deadlines
pub mod Recast
pub mod Asked
pub mod Spanned
pub mod Laws
pub mod Pacing
