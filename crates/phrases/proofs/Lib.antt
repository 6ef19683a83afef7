pub mod Search
pub mod Slots
pub mod Trimming
pub mod Lengths
