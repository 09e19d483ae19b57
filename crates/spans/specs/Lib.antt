pub mod Spans
pub mod Numbers
