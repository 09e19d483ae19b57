pub mod DistanceLaws
pub mod DistanceColumns
