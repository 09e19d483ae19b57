pub mod EveryLaws
pub mod AdmittedLaws
pub mod SplitLaws
pub mod CodeLaws
pub mod SortedLaws
