pub mod StateLaws
pub mod GraphLaws
pub mod Limits
pub mod DueLaws
