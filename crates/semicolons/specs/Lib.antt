pub mod Fields
pub mod Lines
pub mod Marks
pub mod Examples
