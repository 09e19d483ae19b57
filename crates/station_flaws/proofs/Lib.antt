pub mod LengthLaws
pub mod Unique
pub mod Sorted
