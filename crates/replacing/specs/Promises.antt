-- What replacing promises, as relations between what it is given, its answer and what it leaves in the lent bytes.
use Rattle.basics.specs.declared.Refusal.{Refusal}
use Rattle.basics.specs.Outcomes.{ends}
use Rattle.std.specs.Result.{result_unwrap_or}
use Rattle.std.specs.Prelude.{ℕ, ◌≡◌, List, Result}
use Rattle.sheet.specs.Sheets.{sheet_of}
use Rattle.replacing.specs.Calls.{replace_outcome, replaced_file, replaced_sheet, replaced_rows}

-- `replace`: how it ends, how many rows it wrote, 0 where it is refused, and the file and the sheet that it leaves.
abbrev pub RecordReplaced : List ℕ → List ℕ → ℕ → List ℕ → Result ℕ Refusal → List ℕ → List ℕ → Type 0
RecordReplaced file sheet k r answer file' sheet' =
    (ends answer ≡ replace_outcome file sheet k r)
    × (result_unwrap_or answer 0 ≡ replaced_rows file sheet k r)
    × (file' ≡ replaced_file file sheet k r)
    × (sheet' ≡ replaced_sheet file sheet k r)

-- A sheet that was the one judged from its file is so again.
abbrev pub StillJudged : List ℕ → List ℕ → List ℕ → List ℕ → Type 0
StillJudged file sheet file' sheet' = sheet ≡ sheet_of file → sheet' ≡ sheet_of file'
