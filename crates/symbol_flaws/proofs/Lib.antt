pub mod AdmittedLetters
