-- The promise of writing a station leaves one answer and one content of the lent bytes.
use Rattle.basics.specs.Outcomes.{Outcome}
use mathlib.Core.Path.{◌≡◌, sym, ◌∙◌}
use mathlib.Core.List.{List}
use Prim.Native.Nat.{ℕ}
use Rattle.station.specs.declared.Station.{Station}
use Rattle.writing.specs.Promises.{StationWritten}

-- Two answers of `write_station` to one station and one buffer are equal, and so is what they leave there.
pub one_writing : (s : Station) (before : List ℕ) (a b : Outcome) (x y : List ℕ) → StationWritten s before a x → StationWritten s before b y → (a ≡ b) × (x ≡ y)
one_writing s before a b x y p q = (p.0 ∙ sym q.0, p.1 ∙ sym q.1)
