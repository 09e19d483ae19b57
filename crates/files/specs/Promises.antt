-- What the calls on files promise, as relations between what they are given and their answers.
use Rattle.basics.specs.Outcomes.{Outcome}
use Rattle.std.specs.Prelude.{ℕ, ◌≡◌, List}
use Rattle.std.specs.Borrow.{Bor}
use Rattle.basics.specs.Pieces.{StandsAt}
use Rattle.files.specs.Files.{stations, record_at, record_offset}
use Rattle.files.specs.Calls.{length_outcome}

-- `check_file`: 1, 2, or done.
abbrev pub FileChecked : List ℕ → Outcome → Type 0
FileChecked file answer = answer ≡ length_outcome file

-- `stations_in`: how many stations the file has.
abbrev pub StationsCounted : List ℕ → ℕ → Type 0
StationsCounted file answer = answer ≡ stations file

-- `record_in`: the piece of the file itself that is record number k.
abbrev pub RecordFound : Bor (List ℕ) → ℕ → Bor (List ℕ) → Type 0
RecordFound file k answer = (answer.now ≡ record_at file.now k) × StandsAt file (record_offset file.now k) answer
