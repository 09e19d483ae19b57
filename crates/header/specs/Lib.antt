pub mod Table
pub mod Places
pub mod Rules
pub mod Values
pub mod Spelling
pub mod Codes
pub mod Calls
pub mod Promises
