pub mod Unique
mod Filling
