pub mod Kept
pub mod Many
