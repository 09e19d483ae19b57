-- Document 01, "Station rules, by code": the code of a record, and of a typed station.
use Rattle.std.specs.Prelude.{ℕ, List, ◌++◌}
use Rattle.basics.specs.Rules.{first_broken}
use Rattle.station.specs.Places.{fields_of}
use Rattle.station.specs.Rules.{field_rules, typed_rules}
use Rattle.station.specs.Between.{between_rules}
use Rattle.station.specs.Values.{station_of}
use Rattle.station.specs.declared.Station.{Station}

-- The station that a record says.
unfoldable pub value_of : List ℕ → Station
value_of r = station_of (fields_of r)

-- The first broken code of a record, 1 to 30 and then 31 to 39; 0 means none.
unfoldable pub station_code : List ℕ → ℕ
station_code r = first_broken 1 (field_rules (fields_of r) ++ between_rules (value_of r))

-- The first broken code of a typed station.
unfoldable pub typed_code : Station → ℕ
typed_code s = first_broken 1 (typed_rules s ++ between_rules s)
