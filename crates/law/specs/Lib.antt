pub mod Lists
pub mod Setting
pub mod Laws
pub mod Plain
pub mod Machine
pub mod Law
pub mod Example
