pub mod OwnSpelling
