pub mod StationLaws
pub mod GoodLaws
