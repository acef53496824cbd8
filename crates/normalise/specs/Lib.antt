pub mod Flat
pub mod FlatLaws
pub mod Pack
pub mod PackLaws
pub mod Sections
pub mod SectionLaws
