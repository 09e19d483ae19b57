pub mod Formats
pub mod Tenths
