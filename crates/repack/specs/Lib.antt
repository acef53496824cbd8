pub mod Repack
pub mod RepackLaws
pub mod PackLaws
