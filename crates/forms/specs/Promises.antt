-- What the readers of a sheet promise, as relations between its bytes and their answers.
use Rattle.std.specs.Prelude.{ℕ, ◌+◌, ◌≡◌, Bool, List}
use Rattle.forms.specs.Forms.{code_in}
use Rattle.forms.specs.OwnForm.{rows_in, row_in, twin_in, clash_in, bad, head_in, lowest_in, found_in}

-- `rows_in`: how many rows a sheet has.
abbrev pub RowsCounted : List ℕ → ℕ → Type 0
RowsCounted sheet answer = answer ≡ rows_in sheet

-- `row_code`, `row_twin`, `row_clash`, `is_bad`: what row i + 1 of a sheet says.
abbrev pub RowCodeRead : List ℕ → ℕ → ℕ → Type 0
RowCodeRead sheet i answer = answer ≡ code_in (row_in sheet (i + 1))

abbrev pub RowTwinRead : List ℕ → ℕ → ℕ → Type 0
RowTwinRead sheet i answer = answer ≡ twin_in sheet (i + 1)

abbrev pub RowClashRead : List ℕ → ℕ → ℕ → Type 0
RowClashRead sheet i answer = answer ≡ clash_in sheet (i + 1)

abbrev pub RowBadRead : List ℕ → ℕ → Bool → Type 0
RowBadRead sheet i answer = answer ≡ bad sheet (i + 1)

-- `head_code`, `lowest`, `found`: what the trailer behind n rows says.
abbrev pub HeadRead : List ℕ → ℕ → ℕ → Type 0
HeadRead sheet n answer = answer ≡ head_in sheet n

abbrev pub LowestRead : List ℕ → ℕ → ℕ → Type 0
LowestRead sheet n answer = answer ≡ lowest_in sheet n

abbrev pub FoundRead : List ℕ → ℕ → ℕ → Type 0
FoundRead sheet n answer = answer ≡ found_in sheet n
