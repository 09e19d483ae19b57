pub mod FilingLaws
pub mod Unique
