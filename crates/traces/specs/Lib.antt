pub mod Traces
pub mod Examples
