pub mod LetterLaws
pub mod SetsAlike
