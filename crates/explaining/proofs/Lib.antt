pub mod FileLaws
pub mod Unique
