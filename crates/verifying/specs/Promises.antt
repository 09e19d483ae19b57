-- What verifying promises, as a relation between what it is given and its answer. Both texts are lent to be read alone.
use Rattle.std.specs.Prelude.{ℕ, ◌≡◌, List}
use Rattle.sheet.specs.Calls.{judge_outcome}
use Rattle.verifying.specs.Verifying.{finding_of}
use Rattle.verifying.specs.declared.verifying.Verified.{Verified}

-- `verify`: done or judging's refusal, and what it found.
abbrev pub SheetVerified : List ℕ → List ℕ → Verified → Type 0
SheetVerified file sheet answer = (answer.outcome ≡ judge_outcome file sheet) × (answer.finding ≡ finding_of file sheet)
