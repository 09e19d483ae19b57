pub mod Unique
pub mod UniqueReasons
pub mod UniqueCarriages
