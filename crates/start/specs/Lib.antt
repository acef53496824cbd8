pub mod Start
pub mod StartLaws
pub mod Box
