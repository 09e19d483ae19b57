-- Document 01, "Values and the one spelling": the members of the five groups by the table's rows. The unit of a frequency stands in its value.
use Rattle.std.specs.Prelude.{ℕ, suc, ◌-◌, List, [], ◌∷◌, take, drop}
use Rattle.fields.specs.Rows.{Row, meant, ◌&◌}
use Rattle.fields.specs.Table.{station_table}
use Rattle.station_groups.specs.declared.Channel.{Channel}
use Rattle.station_groups.specs.declared.Site.{Site}
use Rattle.station_groups.specs.declared.Emission.{Emission}
use Rattle.station_groups.specs.declared.Antenna.{Antenna}
use Rattle.station_groups.specs.declared.Coordination.{Coordination}

-- Rows a to b.
abbrev pub rows : ℕ → ℕ → List Row
rows a b = take (suc b - a) (drop (a - 1) station_table)

-- A value for each of some rows, and what follows them.
abbrev pub Front : List Row → Type 0 → Type 0
Front [] R = R
Front (r ∷ rs) R = (meant r).Value × Front rs R

-- The five groups.
abbrev pub channel_values : {R : Type 0} → Channel → R → Front (rows 1 7) R
channel_values s rest = s.transmit & s.transmit & s.category & s.class & s.service & s.users & s.carrier & rest

abbrev pub site_values : {R : Type 0} → Site → R → Front (rows 8 13) R
site_values s rest = s.started & s.name & s.country & s.position & s.radius & s.height & rest

abbrev pub emission_values : {R : Type 0} → Emission → R → Front (rows 14 18) R
emission_values s rest = s.designation & s.power & s.basis & s.azimuth & s.elevation & rest

abbrev pub antenna_values : {R : Type 0} → Antenna → R → Front (rows 19 23) R
antenna_values s rest = s.polarisation & s.gain & s.ground & s.horizontal & s.vertical & rest

abbrev pub coordination_values : {R : Type 0} → Coordination → R → Front (rows 24 30) R
coordination_values s rest = s.receive & s.receive & s.remarks & s.status & s.requested & s.coordinated & s.reference & rest
