pub mod Ways
pub mod Values
pub mod Erasures
pub mod Moves
pub mod Exchanges
