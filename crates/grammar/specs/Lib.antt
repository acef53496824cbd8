pub mod Kinds
pub mod Packed
pub mod Family
pub mod KindLaws
pub mod Forest
pub mod ForestLaws
