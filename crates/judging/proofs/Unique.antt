-- The promise of the call on a station's record leaves one answer.
use Rattle.basics.specs.Outcomes.{Outcome}
use mathlib.Core.Path.{◌≡◌, sym, ◌∙◌}
use mathlib.Core.List.{List}
use Prim.Native.Nat.{ℕ}
use Rattle.judging.specs.Promises.{StationChecked}

-- Two answers of `check_station` to one record are equal.
pub one_check : (r : List ℕ) (a b : Outcome) → StationChecked r a → StationChecked r b → a ≡ b
one_check r a b p q = p ∙ sym q
