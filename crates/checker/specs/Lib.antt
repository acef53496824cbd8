pub mod Refusal
pub mod Said
pub mod SaidLaws
pub mod Walk
pub mod WalkLaws
pub mod FaultLaws
pub mod Accepted
pub mod Described
