pub mod Cleaning
