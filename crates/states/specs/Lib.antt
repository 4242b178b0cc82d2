pub mod States
pub mod Due
