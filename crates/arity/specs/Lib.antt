pub mod Arity
pub mod OrderLaws
pub mod ArityLaws
pub mod SearchLaws
