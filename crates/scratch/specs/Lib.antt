pub mod Guessing
pub mod Zeros
