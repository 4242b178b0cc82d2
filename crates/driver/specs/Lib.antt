pub mod Total
pub mod View
pub mod New
pub mod Counted
