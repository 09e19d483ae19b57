-- The station's rules and pieces in the five groups in which the code judges, reads and writes them. Nothing is meant here that the table does not say.
use Rattle.std.specs.Prelude.{ℕ, Bool, List}
use Rattle.fields.specs.Rows.{rules_from, fits_of, spelt_of}
use Rattle.station_groups.specs.Members.{rows, channel_values, site_values, emission_values, antenna_values, coordination_values}
use Rattle.station_groups.specs.declared.Channel.{Channel}
use Rattle.station_groups.specs.declared.Site.{Site}
use Rattle.station_groups.specs.declared.Emission.{Emission}
use Rattle.station_groups.specs.declared.Antenna.{Antenna}
use Rattle.station_groups.specs.declared.Coordination.{Coordination}

-- Channel, rows 1 to 7.
unfoldable pub channel_fields : List (List ℕ) → List Bool
channel_fields f = rules_from 1 (rows 1 7) f

unfoldable pub channel_rules : Channel → List Bool
channel_rules s = fits_of (rows 1 7) (channel_values s tt)

unfoldable pub channel_pieces : Channel → List (List ℕ)
channel_pieces s = spelt_of (rows 1 7) (channel_values s tt)

-- Site, rows 8 to 13.
unfoldable pub site_fields : List (List ℕ) → List Bool
site_fields f = rules_from 8 (rows 8 13) f

unfoldable pub site_rules : Site → List Bool
site_rules s = fits_of (rows 8 13) (site_values s tt)

unfoldable pub site_pieces : Site → List (List ℕ)
site_pieces s = spelt_of (rows 8 13) (site_values s tt)

-- Emission, rows 14 to 18.
unfoldable pub emission_fields : List (List ℕ) → List Bool
emission_fields f = rules_from 14 (rows 14 18) f

unfoldable pub emission_rules : Emission → List Bool
emission_rules s = fits_of (rows 14 18) (emission_values s tt)

unfoldable pub emission_pieces : Emission → List (List ℕ)
emission_pieces s = spelt_of (rows 14 18) (emission_values s tt)

-- Antenna, rows 19 to 23.
unfoldable pub antenna_fields : List (List ℕ) → List Bool
antenna_fields f = rules_from 19 (rows 19 23) f

unfoldable pub antenna_rules : Antenna → List Bool
antenna_rules s = fits_of (rows 19 23) (antenna_values s tt)

unfoldable pub antenna_pieces : Antenna → List (List ℕ)
antenna_pieces s = spelt_of (rows 19 23) (antenna_values s tt)

-- Coordination, rows 24 to 30.
unfoldable pub coordination_fields : List (List ℕ) → List Bool
coordination_fields f = rules_from 24 (rows 24 30) f

unfoldable pub coordination_rules : Coordination → List Bool
coordination_rules s = fits_of (rows 24 30) (coordination_values s tt)

unfoldable pub coordination_pieces : Coordination → List (List ℕ)
coordination_pieces s = spelt_of (rows 24 30) (coordination_values s tt)
