pub mod Sheets
pub mod Entered
pub mod Calls
pub mod Promises
