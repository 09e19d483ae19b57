-- What the code alone asks of an amount that keeps its rule, before it takes its columns for digits.
use Rattle.std.specs.Prelude.{ℕ, ◌≡◌, List, get_or}

-- No space stands first or last, and the point stands behind five bytes.
abbrev pub ReachesThrough : List ℕ → Type 0
ReachesThrough p = (get_or p 5 0 ≡ 46) × (get_or p 0 0 ≡ 32 → ⊥) × (get_or p 10 0 ≡ 32 → ⊥)
