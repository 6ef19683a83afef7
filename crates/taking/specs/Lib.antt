pub mod Lent
pub mod Lacks
pub mod Held
pub mod Frames
