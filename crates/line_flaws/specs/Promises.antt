-- What the call on a line promises, as a relation between what it is given and its answer.
use Rattle.std.specs.Prelude.{ℕ, ◌≡◌, List}
use Rattle.lists.specs.Calls.{line_outcome}
use Rattle.station_flaws.specs.declared.Explained.{Explained}
use Rattle.line_flaws.specs.Calls.{flaw_of_line}

-- `explain_line` of a line: how reading it ends, and the flaw that comes with its code.
abbrev pub LineExplained : List ℕ → Explained → Type 0
LineExplained t answer = (answer.outcome ≡ line_outcome t) × (answer.flaw ≡ flaw_of_line t)
