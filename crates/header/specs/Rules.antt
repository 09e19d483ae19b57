-- Document 01, "Header codes": the fourteen rules, in order.
use Rattle.std.specs.Prelude.{ℕ, Bool, List}
use Rattle.fields.specs.Rows.{rules_from, fits_of}
use Rattle.header.specs.Table.{header_table, header_values}
use Rattle.header.specs.declared.Header.{Header}

-- The rules of a record's fields, by code,
unfoldable pub header_rules : List (List ℕ) → List Bool
header_rules f = rules_from 1 header_table f

-- and of a typed header's values: a value that its columns can't spell breaks that field's rule.
unfoldable pub typed_header_rules : Header → List Bool
typed_header_rules h = fits_of header_table (header_values h)
