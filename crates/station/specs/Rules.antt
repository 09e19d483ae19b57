-- Document 01, "Station rules, by code": the rules of the thirty fields.
use Rattle.std.specs.Prelude.{ℕ, Bool, List}
use Rattle.fields.specs.Rows.{rules_from, fits_of}
use Rattle.fields.specs.Table.{station_table}
use Rattle.station.specs.Members.{values_of}
use Rattle.station.specs.declared.Station.{Station}

-- The rules of a record's fields, by code,
unfoldable pub field_rules : List (List ℕ) → List Bool
field_rules f = rules_from 1 station_table f

-- and of a typed station's values: a value that its columns can't spell breaks that field's rule.
unfoldable pub typed_rules : Station → List Bool
typed_rules s = fits_of station_table (values_of s)
