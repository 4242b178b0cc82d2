pub mod Places
pub mod Joins
pub mod Puts
pub mod Values
pub mod Limits
