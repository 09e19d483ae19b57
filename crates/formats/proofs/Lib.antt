pub mod FormatLaws
pub mod TenthsColumn
