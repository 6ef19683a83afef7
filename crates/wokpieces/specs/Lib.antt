pub mod Exports
pub mod Runs
