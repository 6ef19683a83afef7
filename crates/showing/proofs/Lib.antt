pub mod Listing
pub mod Paging
pub mod Blind
pub mod Lengths
