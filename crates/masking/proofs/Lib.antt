pub mod Clearing
pub mod Insides
pub mod Laying
pub mod Masks
pub mod Opening
pub mod Parts
pub mod Rowed
