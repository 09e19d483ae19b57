pub mod StatedLaws
pub mod Unique
