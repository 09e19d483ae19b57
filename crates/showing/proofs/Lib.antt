pub mod ShowLaws
pub mod PieceLaws
pub mod Unique
