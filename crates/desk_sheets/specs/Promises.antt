-- What the calls on files and sheets promise to callers in C, as relations between what they are given, their answer and what they leave in
-- every lent byte.
use Rattle.std.specs.Prelude.{ℕ, ◌≡◌, List}
use Rattle.basics.specs.Outcomes.{refusal}
use Rattle.sheet.specs.Calls.{judge_outcome, judged_into}
use Rattle.replacing.specs.Calls.{replace_outcome, replaced_file, replaced_sheet, replaced_rows}
use Rattle.verifying.specs.Verifying.{finding_of}
use Rattle.verifying.specs.declared.verifying.Finding.{Finding}
use Rattle.verifying.specs.declared.verifying.Finding.TheVariants as finding

-- `desk_judge` of a file into a sheet.
abbrev pub FilingJudged : List ℕ → List ℕ → ℕ → List ℕ → Type 0
FilingJudged file sheet answer after = (answer ≡ refusal (judge_outcome file sheet)) × (after ≡ judged_into file sheet)

-- `desk_replace` of number k in a file and its sheet.
abbrev pub FilingReplaced : List ℕ → List ℕ → ℕ → List ℕ → ℕ → List ℕ → List ℕ → ℕ → Type 0
FilingReplaced file sheet k r answer file' sheet' rows =
    (answer ≡ refusal (replace_outcome file sheet k r))
    × (file' ≡ replaced_file file sheet k r)
    × (sheet' ≡ replaced_sheet file sheet k r)
    × (rows ≡ replaced_rows file sheet k r)

-- What verifying found, as numbers: nothing is 0, right is 1, wrong is 2 and the offset, which is 0 with the others.
unfoldable pub finding_number : Finding → ℕ
finding_number finding.Refused = 0
finding_number finding.Right = 1
finding_number (finding.WrongAt o) = 2

unfoldable pub offset_with : Finding → ℕ
offset_with finding.Refused = 0
offset_with finding.Right = 0
offset_with (finding.WrongAt o) = o

abbrev pub FindingTold : Finding → ℕ → ℕ → Type 0
FindingTold f found offset = (found ≡ finding_number f) × (offset ≡ offset_with f)

-- `desk_verify` of a file and a sheet.
abbrev pub FilingVerified : List ℕ → List ℕ → ℕ → ℕ → ℕ → Type 0
FilingVerified file sheet answer found offset = (answer ≡ refusal (judge_outcome file sheet)) × FindingTold (finding_of file sheet) found offset
