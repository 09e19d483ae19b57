pub mod RowLaws
pub mod ToldLaws
pub mod Unique
pub mod Worked
