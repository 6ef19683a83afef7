pub mod Dumps
pub mod Levels
pub mod Refused
