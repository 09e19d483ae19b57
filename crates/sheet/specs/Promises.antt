-- What judging promises, as a relation between what it is given, its answer and what it leaves in the lent bytes.
use Rattle.basics.specs.Outcomes.{Outcome}
use Rattle.std.specs.Prelude.{ℕ, ◌+◌, ◌*◌, ◌≤◌, ◌≡◌, List, length}
use Rattle.basics.specs.Fields.{record_length}
use Rattle.files.specs.Files.{most_stations}
use Rattle.forms.specs.OwnForm.{sheet_length}
use Rattle.sheet.specs.Calls.{judge_outcome, judged_into}

-- `judge`: done or its refusal, and the sheet that it leaves.
abbrev pub SheetJudged : List ℕ → List ℕ → Outcome → List ℕ → Type 0
SheetJudged file sheet answer after = (answer ≡ judge_outcome file sheet) × (after ≡ judged_into file sheet)

-- What the calls ask of the bytes inside: a file of n stations, and a sheet for them.
pub record Sized (file sheet : List ℕ) (n : ℕ) : Type 0 where
  pub most : n ≤ most_stations
  pub file_size : length file ≡ record_length * n + record_length
  pub sheet_size : length sheet ≡ sheet_length n
