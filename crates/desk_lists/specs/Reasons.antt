-- What is told to callers in C of a line that is refused, as a relation between the line, the answer and the lent numbers.
use Rattle.std.specs.Prelude.{ℕ, ◌≡◌, List}
use Rattle.answers.specs.Endings.{Answered}
use Rattle.flaws.specs.Flaws.{flaw_number}
use Rattle.lists.specs.Calls.{line_outcome}
use Rattle.line_flaws.specs.Calls.{flaw_of_line}

-- `desk_line_kind` of a line: how reading it ends, and the number of the flaw that comes with the code.
abbrev pub LineKindTold : List ℕ → ℕ → ℕ → ℕ → Type 0
LineKindTold t answer code kind = Answered (line_outcome t) answer code × (kind ≡ flaw_number (flaw_of_line t))
