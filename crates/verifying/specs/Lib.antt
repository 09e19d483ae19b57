pub mod Verifying
pub mod Promises
