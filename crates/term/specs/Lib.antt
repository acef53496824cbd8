pub mod File
pub mod LaidOut
pub mod Record
pub mod FileLaws
pub mod RecordLaws
