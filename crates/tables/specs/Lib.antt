pub mod Words
pub mod Levels
pub mod Standings
pub mod IsTable
pub mod Tiles
pub mod Places
