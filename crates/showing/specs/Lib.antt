pub mod Showing
pub mod Promises
