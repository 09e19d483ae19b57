pub mod Lines
pub mod Calls
pub mod Promises
pub mod Examples
