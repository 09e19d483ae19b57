pub mod Reports
pub mod Promises
