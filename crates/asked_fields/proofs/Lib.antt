pub mod FilledLaws
pub mod PartLaws
