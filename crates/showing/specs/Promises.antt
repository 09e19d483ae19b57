-- What showing promises, as relations between what it is given and its answers.
use Rattle.basics.specs.Outcomes.{Outcome}
use Rattle.std.specs.Prelude.{ℕ, ◌≡◌, List}
use Rattle.std.specs.Borrow.{Bor}
use Rattle.basics.specs.Pieces.{StandsAt}
use Rattle.showing.specs.Showing.{show_outcome, shown_field, shown_offset}

-- `show_outcome`: how showing field j of record k ends.
abbrev pub ShowJudged : List ℕ → ℕ → ℕ → Outcome → Type 0
ShowJudged file k j answer = answer ≡ show_outcome file k j

-- `show`: the piece of the file itself that holds it.
abbrev pub FieldShown : Bor (List ℕ) → ℕ → ℕ → Bor (List ℕ) → Type 0
FieldShown file k j answer = (answer.now ≡ shown_field file.now k j) × StandsAt file (shown_offset file.now k j) answer
