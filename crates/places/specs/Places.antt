-- Document 01, "The filing and its files": record 0 is the header, the others are stations; each has the fields of its table.
use Rattle.std.specs.Prelude.{ℕ, zero, suc, List, length}
use Rattle.station.specs.Places.{station_places}
use Rattle.header.specs.Places.{header_places}

-- The places of record number k's fields: fourteen in the header, thirty in a station.
unfoldable pub places_of : ℕ → List (ℕ × ℕ)
places_of zero = header_places
places_of (suc k) = station_places

-- How many fields record number k has.
unfoldable pub field_count : ℕ → ℕ
field_count k = length (places_of k)
