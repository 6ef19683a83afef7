pub mod Storing
pub mod Loading
pub mod Again
