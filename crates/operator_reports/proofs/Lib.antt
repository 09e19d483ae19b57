pub mod PageLines
