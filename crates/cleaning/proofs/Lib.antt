pub mod Fronts
pub mod Settling
pub mod Bridge
pub mod Cleans
