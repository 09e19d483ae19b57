-- The flaws of a typed station in the groups in which the code finds them; those of channel and antenna stand with their code. Nothing is meant here that the table does not say.
use Rattle.std.specs.Prelude.{List}
use Rattle.flaw_parts.specs.Parts.{typed_flaws}
use Rattle.flaws.specs.declared.Flaw.{Flaw}
use Rattle.station_groups.specs.Members.{rows, site_values, emission_values, coordination_values}
use Rattle.station_groups.specs.declared.Site.{Site}
use Rattle.station_groups.specs.declared.Emission.{Emission}
use Rattle.station_groups.specs.declared.Coordination.{Coordination}

-- Site, rows 8 to 13.
unfoldable pub site_flaws : Site → List Flaw
site_flaws s = typed_flaws (rows 8 13) (site_values s tt)

-- Emission, rows 14 to 18.
unfoldable pub emission_flaws : Emission → List Flaw
emission_flaws s = typed_flaws (rows 14 18) (emission_values s tt)

-- Coordination, rows 24 to 30.
unfoldable pub coordination_flaws : Coordination → List Flaw
coordination_flaws s = typed_flaws (rows 24 30) (coordination_values s tt)
