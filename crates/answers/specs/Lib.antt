pub mod Endings
pub mod Rules
