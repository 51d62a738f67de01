pub mod Checks
pub mod Places
pub mod Digits
pub mod Codes
pub mod Cases
