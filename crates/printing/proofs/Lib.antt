pub mod AppendLaws
pub mod LineLaws
pub mod WriteLaws
pub mod Unique
pub mod Plain
