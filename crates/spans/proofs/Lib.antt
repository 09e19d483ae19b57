pub mod SpanLaws
pub mod NumberLaws
