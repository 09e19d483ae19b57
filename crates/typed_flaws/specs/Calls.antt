-- Document 02, wish 7: the flaw that comes with the code of a typed station.
use Rattle.std.specs.Prelude.{ℕ}
use Rattle.fields.specs.Table.{station_table}
use Rattle.flaw_parts.specs.Parts.{typed_flaws, flaw_with}
use Rattle.flaws.specs.declared.Flaw.{Flaw}
use Rattle.station.specs.Members.{values_of}
use Rattle.station.specs.Codes.{typed_code}
use Rattle.station.specs.declared.Station.{Station}

-- The flaw that code c of a typed station has,
unfoldable pub flaw_typed : Station → ℕ → Flaw
flaw_typed s c = flaw_with (typed_flaws station_table (values_of s)) c

-- and that of its first broken code.
unfoldable pub typed_flaw : Station → Flaw
typed_flaw s = flaw_typed s (typed_code s)
