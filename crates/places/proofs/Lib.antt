pub mod PlaceLaws
pub mod Unique
