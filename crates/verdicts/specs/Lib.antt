pub mod Missing
pub mod Accepts
pub mod IsCut
pub mod Covers
pub mod Conditions
