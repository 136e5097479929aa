pub mod Ended
pub mod Lists
pub mod Places
pub mod WholeFiles
