pub mod Paging
pub mod Unique
pub mod StandIns
