-- Facts by their numbers.
use mathlib.Core.Path.{◌≡◌, sym, ap}
use mathlib.Core.Bool.{Bool, false}
use mathlib.Core.List.{List}
use Prim.Native.Nat.{ℕ, ◌≤◌}
use lib.ListN.{get_or-eq_default}
use Rattle.facts.specs.Facts.{facts, fact_of}

-- above the facts there is none
pub no_fact : (fact : ℕ) (p : List ℕ) → 6 ≤ fact → false ≡ fact_of fact p
unfolding fact_of
no_fact fact p h = sym (ap (λ (f : List ℕ → Bool). f p) (get_or-eq_default facts (λ p. false) h))
