pub mod DecimalLaws
pub mod DecimalSpelling
pub mod DecimalTrip
pub mod DecimalColumn
pub mod Letters
pub mod DecimalPlain
