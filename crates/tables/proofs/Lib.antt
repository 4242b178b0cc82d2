pub mod ReadLaws
pub mod MakeLaws
pub mod LinkLaws
pub mod ChangeLaws
