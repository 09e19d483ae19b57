pub mod DigitLaws
pub mod NameLaws
pub mod Unique
pub mod Examples
