pub mod FileLaws
pub mod LengthLaws
pub mod PieceLaws
pub mod ReplacedLaws
pub mod PutLaws
pub mod Unique
