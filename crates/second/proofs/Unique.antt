-- The second judge's promise is the first judge's own, so that the two agree on every record.
use mathlib.Core.Path.{◌≡◌}
use mathlib.Core.List.{List}
use Prim.Native.Nat.{ℕ}
use Rattle.station_flaws.specs.Promises.{StationExplained}
use Rattle.station_flaws.specs.declared.Explained.{Explained}
use Rattle.station_flaws.proofs.Unique.{one_explanation}

-- An answer of `explain_station` and one of `explain_second` to one record are equal: code, flaw and refusal.
pub judges_agree : (r : List ℕ) (first second : Explained) → StationExplained r first → StationExplained r second → first ≡ second
judges_agree r first second p q = one_explanation r first second p q
