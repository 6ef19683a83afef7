pub mod Wholes
pub mod Makes
pub mod Builds
