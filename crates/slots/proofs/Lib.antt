pub mod CellLaws
pub mod SlotLaws
