-- What a walk promises, as a relation between what it is given and its answer.
use Rattle.std.specs.Prelude.{ℕ, ◌≡◌, List}
use Rattle.flaw_parts.specs.Parts.{flaw_with}
use Rattle.walking.specs.Walks.{flaws_by, code_by}
use Rattle.walking.specs.declared.Found.{Found}

-- `walk` by two tables on a record: its first broken code, and the flaw that comes with the code.
unfoldable pub Walked : List (List ℕ) → List (List ℕ) → List ℕ → Found → Type 0
Walked entries rows r answer = (answer.code ≡ code_by entries r rows) × (answer.flaw ≡ flaw_with (flaws_by entries r rows) answer.code)
