-- Document 01, "Values and the one spelling": the one record that a typed header spells to, a piece for each field.
use Rattle.std.specs.Prelude.{ℕ, List}
use Rattle.fields.specs.Rows.{spelt_of}
use Rattle.basics.specs.Fields.{joined}
use Rattle.header.specs.Table.{header_table, header_values}
use Rattle.header.specs.declared.Header.{Header}

-- The fourteen pieces, in order,
unfoldable pub header_pieces : Header → List (List ℕ)
header_pieces h = spelt_of header_table (header_values h)

-- and joined: the record.
unfoldable pub spell_header : Header → List ℕ
spell_header h = joined (header_pieces h)
