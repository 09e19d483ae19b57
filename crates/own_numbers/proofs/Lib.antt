pub mod OwnLaws
pub mod OwnPlaces
