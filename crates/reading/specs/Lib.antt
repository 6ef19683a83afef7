pub mod Gaps
pub mod Scan
