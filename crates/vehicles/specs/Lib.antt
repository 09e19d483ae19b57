pub mod Digits
pub mod Names
pub mod Promises
pub mod Examples
