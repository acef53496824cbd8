pub mod Settle
pub mod Parted
pub mod Moving
pub mod SettleLaws
