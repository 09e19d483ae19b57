-- Document 01, "Values and the one spelling": the one record that a typed station spells to, a piece for each field.
use Rattle.std.specs.Prelude.{ℕ, List}
use Rattle.fields.specs.Rows.{spelt_of}
use Rattle.fields.specs.Table.{station_table}
use Rattle.basics.specs.Fields.{joined}
use Rattle.station.specs.Members.{values_of}
use Rattle.station.specs.declared.Station.{Station}

-- The thirty pieces, in order,
unfoldable pub station_pieces : Station → List (List ℕ)
station_pieces s = spelt_of station_table (values_of s)

-- and joined: the record.
unfoldable pub spell_station : Station → List ℕ
spell_station s = joined (station_pieces s)
