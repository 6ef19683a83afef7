pub mod Deciding
pub mod Writing
pub mod Accepted
