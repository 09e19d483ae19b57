pub mod FrequencyLaws
pub mod FrequencyColumns
pub mod PlainAmounts
