pub mod RunLaws
pub mod GoingOn
pub mod CallsGoOn
pub mod AnyCut
