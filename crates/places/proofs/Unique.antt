-- The promises of the calls on places leave one answer.
use mathlib.Core.Path.{◌≡◌, sym, ◌∙◌}
use Prim.Native.Nat.{ℕ}
use Rattle.basics.specs.declared.Place.{Place}
use Rattle.places.specs.Promises.{HeaderPlaced, StationPlaced, FieldPlaced}

-- Two answers of `header_place` to one number are equal,
pub one_header_place : (j : ℕ) (a b : Place) → HeaderPlaced j a → HeaderPlaced j b → a ≡ b
one_header_place j a b p q = p ∙ sym q

-- of `station_place`,
pub one_station_place : (j : ℕ) (a b : Place) → StationPlaced j a → StationPlaced j b → a ≡ b
one_station_place j a b p q = p ∙ sym q

-- and of `field_place`.
pub one_place : (k j : ℕ) (a b : Place) → FieldPlaced k j a → FieldPlaced k j b → a ≡ b
one_place k j a b p q = p ∙ sym q
