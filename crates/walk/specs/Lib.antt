pub mod Spots
pub mod Walk
pub mod Few
pub mod Loop
pub mod Steps
pub mod Calls
pub mod Cycle
