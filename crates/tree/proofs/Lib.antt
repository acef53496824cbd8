pub mod BodyLaws
pub mod TableLaws
pub mod NormalLaws
pub mod ExactLaws
