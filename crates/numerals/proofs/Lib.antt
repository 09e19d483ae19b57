pub mod NumberLaws
pub mod Signs
pub mod Spelling
pub mod RoundTrip
pub mod WholeColumn
pub mod Letters
