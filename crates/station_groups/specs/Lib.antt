pub mod Members
pub mod Groups
pub mod Asked
