pub mod ShownLaws
pub mod FaultLaws
pub mod NumberLaws
pub mod Unique
