-- Document 01, "Refusal numbers": what every call on a file asks of it first.
use Rattle.std.specs.Prelude.{ℕ, List, [], ◌∷◌, ltb, Err}
use Rattle.basics.specs.Outcomes.{Test, when, first_refusal, Outcome}
use Rattle.basics.specs.declared.Refusal.TheVariants as why
use Rattle.files.specs.Files.{stations, too_long, not_records}

-- What every call on a file asks first: its length. Where it is wrong, 1 and 2 settle the call.
abbrev pub file_tests : List ℕ → List Test
file_tests file = when (too_long file) (Err why.FileTooLong) ∷ when (not_records file) (Err why.FileNotRecords) ∷ []

-- How a call ends that asks nothing else.
abbrev pub length_outcome : List ℕ → Outcome
length_outcome file = first_refusal (file_tests file)

-- The record's number is above n.
abbrev pub number_test : List ℕ → ℕ → Test
number_test file k = when (ltb (stations file) k) (Err why.NoSuchRecord)
