pub mod EndingLaws
pub mod Unique
