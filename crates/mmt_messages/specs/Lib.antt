pub mod Sent
pub mod Found
pub mod Headline
