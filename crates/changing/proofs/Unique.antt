-- The promise of changing a value leaves one answer, and one content of the record.
use Rattle.basics.specs.Outcomes.{Outcome}
use mathlib.Core.Path.{◌≡◌}
use mathlib.Core.List.{List}
use Prim.Native.Nat.{ℕ}
use Rattle.station.specs.declared.Station.{Station}
use Rattle.respelling.proofs.Unique.{one}
use Rattle.changing.specs.Promises.{RecordChanged}

-- Two answers to one change of a value are equal, and so is what they leave.
pub one_change : (change : Station → Station) (before : List ℕ) (a b : Outcome) (x y : List ℕ) → RecordChanged change before a x → RecordChanged change before b y → (a ≡ b) × (x ≡ y)
one_change change before = one
