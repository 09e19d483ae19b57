-- The promises of the calls on a station's record leave one answer.
use mathlib.Core.Path.{◌≡◌, sym, ◌∙◌}
use mathlib.Core.List.{List}
use Prim.Native.Nat.{ℕ}
use Rattle.reading.specs.Promises.{StationRead}
use Rattle.reading.specs.declared.typed.ReadStation.{ReadStation}

-- Two answers of `read_station` to one record are equal.
pub one_reading : (r : List ℕ) (a b : ReadStation) → StationRead r a → StationRead r b → a ≡ b
one_reading r a b p q = λ k. record { outcome = (p.0 ∙ sym q.0) k; station = (p.1 ∙ sym q.1) k }
