pub mod Descriptor
pub mod Columns
pub mod DescriptorLaws
pub mod Template
