pub mod GivenBack
pub mod Listings
pub mod Peaked
pub mod Quiet
pub mod RightPlans
pub mod SentBack
pub mod Taken
mod PacedBack
