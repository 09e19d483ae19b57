pub mod OrderLaws
pub mod Unique
