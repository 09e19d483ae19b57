pub mod Cutting
pub mod Gathering
pub mod Promises
