pub mod MessageSteps
pub mod Bits
pub mod PayloadLaw
pub mod TableSteps
pub mod MessageLaw
pub mod Written
pub mod Within
pub mod Places
