pub mod Whole
pub mod ListLaws
pub mod TableLaws
pub mod WholeLaws
pub mod ReadLaws
