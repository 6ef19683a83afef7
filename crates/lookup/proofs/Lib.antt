pub mod Tables
pub mod Spans
pub mod Seeking
pub mod Unique
