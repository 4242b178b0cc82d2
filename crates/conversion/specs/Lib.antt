pub mod Info
pub mod Asked
