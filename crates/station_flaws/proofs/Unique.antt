-- The promise of the call on a record leaves one answer.
use mathlib.Core.Path.{◌≡◌, sym, ◌∙◌}
use mathlib.Core.List.{List}
use Prim.Native.Nat.{ℕ}
use Rattle.station_flaws.specs.Promises.{StationExplained}
use Rattle.station_flaws.specs.declared.Explained.{Explained}

-- Two answers of `explain_station` to one record are equal.
pub one_explanation : (r : List ℕ) (a b : Explained) → StationExplained r a → StationExplained r b → a ≡ b
one_explanation r a b p q = λ i. record { outcome = (p.0 ∙ sym q.0) i; flaw = (p.1 ∙ sym q.1) i }
