pub mod Chains
pub mod Counts
pub mod Edits
pub mod Patches
pub mod Props
pub mod Shapes
