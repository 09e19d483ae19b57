pub mod RoundTrip
pub mod Reading
pub mod CallLaws
pub mod RecordLaws
pub mod WholeLaws
pub mod Unique
