pub mod ArcLaws
pub mod PositionColumn
pub mod Letters
