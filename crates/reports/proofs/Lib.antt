pub mod SheetLaws
pub mod ReportLaws
pub mod Unique
pub mod Worked
