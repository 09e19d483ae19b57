pub mod Kept
pub mod Sites
