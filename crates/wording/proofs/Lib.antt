pub mod Puts
pub mod Turns
pub mod Sheets
pub mod Decimals
