-- Where the first field of a text ends, place by place: what the code that goes through it wants. Nothing is meant here that `before` and `behind` do not say.
use Rattle.std.specs.Prelude.{ℕ, ◌+◌, ◌≤◌, ◌≡◌, List, ◌++◌, length, take, drop}
use Rattle.semicolons.specs.Lines.{before, behind}

-- The first i bytes hold no mark: the field goes on with what stands before the next one.
abbrev pub Passed : List ℕ → ℕ → Type 0
Passed s i = (i ≤ length s) × (before s ≡ take i s ++ before (drop i s)) × (behind s ≡ behind (drop i s))

-- Where the field ends.
abbrev pub Ends : List ℕ → ℕ → Type 0
Ends s i = (i ≤ length s) × (before s ≡ take i s) × (behind s ≡ drop (i + 1) s)
