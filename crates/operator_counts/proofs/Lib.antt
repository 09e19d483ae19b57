pub mod HeardLaws
pub mod TableLaws
pub mod TallyLaws
pub mod SumLaws
