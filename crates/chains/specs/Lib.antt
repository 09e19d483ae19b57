pub mod Chains
pub mod Seconds
pub mod Keys
pub mod Scopes
