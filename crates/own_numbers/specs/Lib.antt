pub mod OwnNumbers
