pub mod Ends
pub mod Lengths
pub mod Reasons
