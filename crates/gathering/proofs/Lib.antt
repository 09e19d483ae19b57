pub mod CutLaws
pub mod PartLaws
pub mod HoldLaws
pub mod Unique
