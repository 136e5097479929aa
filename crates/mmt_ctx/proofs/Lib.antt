pub mod Law
pub mod ReadBack
