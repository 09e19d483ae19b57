pub mod Fields
pub mod Rules
pub mod Outcomes
pub mod Pieces
