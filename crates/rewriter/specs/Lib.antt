pub mod Recorded
pub mod Seen
