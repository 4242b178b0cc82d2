pub mod Outcomes
pub mod Exchanging
pub mod Accepting
pub mod Lawfuls
pub mod Performing
pub mod Erasures
