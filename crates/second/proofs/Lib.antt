pub mod UnitLaws
pub mod PlaceLaws
pub mod TableLaws
pub mod Unique
