pub mod Path
pub mod Get
pub mod PathLaws
pub mod PathText
pub mod PathReading
pub mod PathWriting
pub mod PathCode
pub mod PathSpelled
