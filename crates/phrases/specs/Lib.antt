pub mod Words
pub mod Texts
pub mod Table
pub mod Sections
pub mod Laid
pub mod Names
pub mod Sentences
