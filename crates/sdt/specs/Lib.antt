pub mod Table
pub mod TableLaws
pub mod Edit
pub mod Answer
pub mod AnswerLaws
pub mod EditLaws
