-- The flaws of a typed station's channel. Nothing is meant here that the table does not say.
use Rattle.std.specs.Prelude.{List}
use Rattle.flaw_parts.specs.Parts.{typed_flaws}
use Rattle.flaws.specs.declared.Flaw.{Flaw}
use Rattle.station_groups.specs.Members.{rows, channel_values}
use Rattle.station_groups.specs.declared.Channel.{Channel}

-- Channel, rows 1 to 7.
unfoldable pub channel_flaws : Channel → List Flaw
channel_flaws s = typed_flaws (rows 1 7) (channel_values s tt)
