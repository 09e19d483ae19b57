-- The flaws of a typed station's antenna. Nothing is meant here that the table does not say.
use Rattle.std.specs.Prelude.{List}
use Rattle.flaw_parts.specs.Parts.{typed_flaws}
use Rattle.flaws.specs.declared.Flaw.{Flaw}
use Rattle.station_groups.specs.Members.{rows, antenna_values}
use Rattle.station_groups.specs.declared.Antenna.{Antenna}

-- Antenna, rows 19 to 23.
unfoldable pub antenna_flaws : Antenna → List Flaw
antenna_flaws s = typed_flaws (rows 19 23) (antenna_values s tt)
