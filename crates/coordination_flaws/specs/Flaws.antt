-- Document 02, wish 7: the flaw that a code of a record has, whichever its group.
use Rattle.std.specs.Prelude.{ℕ, List}
use Rattle.fields.specs.Table.{station_table}
use Rattle.flaw_parts.specs.Parts.{flaws_from, flaw_with}
use Rattle.flaws.specs.declared.Flaw.{Flaw}
use Rattle.station.specs.Places.{fields_of}

-- The flaw that code c of a record has.
unfoldable pub record_flaw : List ℕ → ℕ → Flaw
record_flaw r c = flaw_with (flaws_from 1 station_table (fields_of r)) c
