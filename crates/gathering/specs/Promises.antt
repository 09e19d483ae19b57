-- What the calls that gather a line promise, as relations between what they are given, their answer and what they leave in the lent bytes.
use Rattle.std.specs.Prelude.{ℕ, ◌≡◌, List, [], length}
use Rattle.gathering.specs.Cutting.{first_line}
use Rattle.gathering.specs.Gathering.{kept_of, kept_with, holding}
use Rattle.gathering.specs.declared.Gathered.{Gathered}

-- `line_end` of a text: how many bytes its first line has.
abbrev pub LineEnded : List ℕ → ℕ → Type 0
LineEnded t answer = answer ≡ length (first_line t)

-- `nothing`: what is kept of a line before its first byte.
abbrev pub Begun : Gathered → Type 0
Begun answer = answer ≡ kept_of []

-- `gather` of a part: what is kept then, and what the buffer holds.
abbrev pub GoneOn : List ℕ → Gathered → List ℕ → Gathered → List ℕ → Type 0
GoneOn before g part answer after = (answer ≡ kept_with before g part) × (after ≡ holding before g.held part)
