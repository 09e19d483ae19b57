pub mod Explanations
pub mod Promises
