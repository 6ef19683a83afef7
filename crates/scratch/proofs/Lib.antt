pub mod Blank
pub mod Guess
