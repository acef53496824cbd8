pub mod File
pub mod Stands
pub mod Writable
pub mod SectionLaws
pub mod FileLaws
pub mod WritableLaws
pub mod FewLaws
