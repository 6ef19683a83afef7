pub mod Start
pub mod Making
