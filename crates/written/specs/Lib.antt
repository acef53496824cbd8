pub mod Fine
pub mod FineLaws
pub mod WrittenMost
