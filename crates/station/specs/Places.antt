-- Document 01, "Station rules, by code": the columns of the thirty fields.
use Rattle.std.specs.Prelude.{ℕ, ◌≡◌, true, List}
use Rattle.fields.specs.Rows.{places_of}
use Rattle.fields.specs.Table.{station_table, table_tiles}
use Rattle.basics.specs.Fields.{cut, tiles_from}

-- First column and length of each field, by code.
abbrev pub station_places : List (ℕ × ℕ)
station_places = places_of station_table

-- They cover columns 1 to 219 once.
pub station_tiles : tiles_from 1 station_places ≡ true
station_tiles = table_tiles

-- The fields of a station's record, in order.
unfoldable pub fields_of : List ℕ → List (List ℕ)
fields_of r = cut station_places r
