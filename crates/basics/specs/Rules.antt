-- Document 01, "Station rules, by code": rules are one list in the order of their codes, and the first broken code is reported.
use Rattle.std.specs.Prelude.{ℕ, suc, ◌≡◌, Bool, true, cond, List, [], ◌∷◌}

-- The code of the first rule that is broken, counted from k on; 0 means none.
unfoldable pub first_broken : ℕ → List Bool → ℕ
first_broken k [] = 0
first_broken k (holds ∷ rules) = cond holds (first_broken (suc k) rules) k

-- Every rule of a list holds.
abbrev pub All : List Bool → Type 0
All [] = Unit {0}
All (holds ∷ rules) = (holds ≡ true) × All rules
