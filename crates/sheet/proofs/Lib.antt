pub mod SheetLaws
pub mod JudgeLaws
pub mod EnteredLaws
pub mod WrittenLaws
pub mod Unique
