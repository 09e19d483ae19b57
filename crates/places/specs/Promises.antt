-- What the calls on places promise, as relations between what they are given and their answers.
use Rattle.std.specs.Prelude.{ℕ, ◌≡◌}
use Rattle.basics.specs.Fields.{place_of}
use Rattle.basics.specs.declared.Place.{Place}
use Rattle.station.specs.Places.{station_places}
use Rattle.header.specs.Places.{header_places}
use Rattle.places.specs.Places.{places_of}

-- `header_place` of a number: the place of that field.
abbrev pub HeaderPlaced : ℕ → Place → Type 0
HeaderPlaced j answer = answer ≡ place_of header_places j

-- `station_place` of a number: the place of that field.
abbrev pub StationPlaced : ℕ → Place → Type 0
StationPlaced j answer = answer ≡ place_of station_places j

-- `field_place`: where field j stands in record k.
abbrev pub FieldPlaced : ℕ → ℕ → Place → Type 0
FieldPlaced k j answer = answer ≡ place_of (places_of k) j
