pub mod Lent
pub mod Deciding
pub mod Settling
pub mod Held
