pub mod BuildLaws
pub mod Carriages
pub mod Unique
