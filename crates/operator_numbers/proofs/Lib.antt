pub mod NumberLaws
pub mod Worked
