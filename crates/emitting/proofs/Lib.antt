pub mod Puts
pub mod Overs
pub mod Bridge
pub mod Lent
