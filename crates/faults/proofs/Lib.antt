pub mod LookLaws
pub mod Refusals
pub mod HeldLaws
pub mod Unique
