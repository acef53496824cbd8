pub mod Computed
pub mod Theorems
pub mod Leaves
