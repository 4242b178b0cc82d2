pub mod World
pub mod Refusing
pub mod Perform
pub mod After
pub mod Laws
pub mod Examples
