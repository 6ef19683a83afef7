pub mod Heads
pub mod Crowds
pub mod Taking
pub mod Lent
pub mod Lacking
pub mod Keys
