pub mod RightLaws
pub mod VerifyLaws
pub mod Unique
pub mod YesExactly
