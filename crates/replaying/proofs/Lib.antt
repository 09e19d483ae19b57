pub mod ReplayLaws
pub mod Unique
