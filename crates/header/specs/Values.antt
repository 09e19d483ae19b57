-- Document 01: the typed header that a record's fields say, and the empty one.
use Rattle.std.specs.Prelude.{ℕ, List}
use Rattle.fields.specs.Rows.{values_from, empty_of}
use Rattle.header.specs.Table.{header_table, header_from}
use Rattle.header.specs.declared.Header.{Header}

-- The header that fields say, where they break no rule.
unfoldable pub header_of : List (List ℕ) → Header
header_of f = header_from (values_from 1 header_table f)

-- The empty header: its fixed texts are all spaces too.
unfoldable pub empty_header : Header
empty_header = header_from (empty_of header_table)
