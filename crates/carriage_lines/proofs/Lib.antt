pub mod GivenLaws
pub mod PutLaws
pub mod CallLaws
pub mod Built
pub mod Unique
pub mod Examples
