pub mod Number
pub mod NumberLaws
