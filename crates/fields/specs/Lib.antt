pub mod Fields
pub mod Written
pub mod Get
pub mod WrittenLaws
