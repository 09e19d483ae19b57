pub mod Counting
pub mod Forms
pub mod OwnForm
pub mod Promises
