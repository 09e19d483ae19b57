-- Document 01, "Values and the one spelling": the typed station that a record's fields say, and the empty one.
use Rattle.std.specs.Prelude.{ℕ, List}
use Rattle.fields.specs.Rows.{values_from, empty_of}
use Rattle.fields.specs.Table.{station_table}
use Rattle.station.specs.Members.{station_from}
use Rattle.station.specs.declared.Station.{Station}

-- The station that fields say, where they break no rule.
unfoldable pub station_of : List (List ℕ) → Station
station_of f = station_from (values_from 1 station_table f)

-- The empty station.
unfoldable pub empty_station : Station
empty_station = station_from (empty_of station_table)
