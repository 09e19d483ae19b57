pub mod Unique
pub mod Sorted
