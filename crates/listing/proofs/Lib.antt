pub mod LengthLaws
pub mod ListLaws
pub mod ListLines
pub mod ListBack
pub mod Unique
