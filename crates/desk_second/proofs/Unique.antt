-- The promise of the second judge's call leaves one answer, one code and one kind.
use mathlib.Core.Path.{◌≡◌, sym, ◌∙◌}
use mathlib.Core.List.{List}
use Prim.Native.Nat.{ℕ}
use Rattle.station.specs.Calls.{read_outcome}
use Rattle.answers.proofs.Unique.{one_answer}
use Rattle.desk_second.specs.Promises.{StationSecondTold}

pub one_station_second : (r : List ℕ) (a b c d x y : ℕ) → StationSecondTold r a c x → StationSecondTold r b d y → (a ≡ b) × (c ≡ d) × (x ≡ y)
one_station_second r a b c d x y p q = let h = one_answer (read_outcome r) a b c d p.0 q.0 in (h.0, h.1, p.1 ∙ sym q.1)
