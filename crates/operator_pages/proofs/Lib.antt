pub mod PackLaws
pub mod PageLaws
pub mod OrderLaws
pub mod PageTheorems
pub mod Unique
pub mod FoundLaws
