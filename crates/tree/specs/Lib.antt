pub mod Fits
pub mod Bytes
pub mod Normal
pub mod IsNormal
pub mod Read
pub mod Good
pub mod StartLaws
pub mod Examples
