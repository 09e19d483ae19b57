-- Document 01, "Values and the one spelling": the members of a typed station by the table's rows, those of its groups one behind the other.
use Rattle.std.specs.Prelude.{ℕ, ◌-◌}
use Rattle.fields.specs.Rows.{Values, value_behind}
use Rattle.fields.specs.Table.{station_table, meant_at}
use Rattle.station_groups.specs.Members.{channel_values, site_values, emission_values, antenna_values, coordination_values}
use Rattle.station.specs.declared.Station.{Station}

-- All thirty,
abbrev pub values_of : Station → Values station_table
values_of s = channel_values s.channel (site_values s.site (emission_values s.emission (antenna_values s.antenna (coordination_values s.coordination tt))))

-- that of field number k,
abbrev pub value_at : Values station_table → (k : ℕ) → (meant_at k).Value
value_at v k = value_behind station_table v (k - 1)

-- and the station that thirty values make.
abbrev pub station_from : Values station_table → Station
station_from v =
    let field : (k : ℕ) → (meant_at k).Value = value_at v in
    let ground : (meant_at 21).Value = field 21 in
    record {
      channel = record { transmit = field 1; category = field 3; class = field 4; service = field 5; users = field 6; carrier = field 7 };
      site = record { started = field 8; name = field 9; country = field 10; position = field 11; radius = field 12; height = field 13 };
      emission = record { designation = field 14; power = field 15; basis = field 16; azimuth = field 17; elevation = field 18 };
      antenna = record { polarisation = field 19; gain = field 20; ground = ground; horizontal = field 22; vertical = field 23 };
      coordination = record { receive = field 24; remarks = field 26; status = field 27; requested = field 28; coordinated = field 29; reference = field 30 };
    }
