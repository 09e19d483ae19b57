pub mod Changing
pub mod Promises
