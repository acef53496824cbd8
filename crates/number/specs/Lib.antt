pub mod Integer
pub mod Get
pub mod PkgLength
pub mod Buffer
pub mod Lead
pub mod IntegerLaws
pub mod PkgLengthLaws
pub mod BufferLaws
