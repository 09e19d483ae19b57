-- Document 01, "Refusal numbers": how judging ends, and what it leaves.
use Rattle.std.specs.Prelude.{ℕ, not, List, [], ◌∷◌, ◌++◌, Err}
use Rattle.columns.specs.Texts.{sized}
use Rattle.basics.specs.Outcomes.{if_done, Test, when, first_refusal, Outcome}
use Rattle.basics.specs.declared.Refusal.TheVariants as why
use Rattle.files.specs.Files.{stations}
use Rattle.files.specs.Calls.{file_tests}
use Rattle.forms.specs.OwnForm.{sheet_length}
use Rattle.sheet.specs.Sheets.{sheet_of}

-- Judging asks 1 to 3: the file's length, and whether the lent sheet is exactly as long as one of its n stations.
abbrev pub judge_tests : List ℕ → List ℕ → List Test
judge_tests file sheet = file_tests file ++ (when (not (sized (sheet_length (stations file)) sheet)) (Err why.SheetLength) ∷ [])

unfoldable pub judge_outcome : List ℕ → List ℕ → Outcome
judge_outcome file sheet = first_refusal (judge_tests file sheet)

-- It leaves the sheet judged from the file, and on a refusal every byte as it was.
unfoldable pub judged_into : List ℕ → List ℕ → List ℕ
judged_into file sheet = if_done (judge_outcome file sheet) (sheet_of file) sheet
