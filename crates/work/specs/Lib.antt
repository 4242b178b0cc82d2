pub mod Work
pub mod Waiting
pub mod Batches
pub mod Lent
pub mod Setting
