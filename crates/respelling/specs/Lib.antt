pub mod Respelling
pub mod Promises
