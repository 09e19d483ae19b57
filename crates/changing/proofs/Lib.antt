pub mod ChangeLaws
pub mod Unique
