pub mod Types
pub mod Lining
pub mod Lengths
