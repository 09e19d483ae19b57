-- Document 01: power, 9A, 9B, 4Z and 9Y can be set on a typed station. Each of these is that station with one value changed.
use Rattle.std.specs.Prelude.{ℕ, ◌-◌, Option, ℤ}
use Rattle.fields.specs.Rows.{put_behind}
use Rattle.fields.specs.Table.{station_table, meant_at}
use Rattle.distances.specs.declared.Metres.{Metres}
use Rattle.station.specs.Members.{values_of, station_from}
use Rattle.station.specs.declared.Station.{Station}

-- The station with another value in field number k.
abbrev pub with_value : (k : ℕ) → Station → (meant_at k).Value → Station
with_value k s v = station_from (put_behind station_table (values_of s) (k - 1) v)

-- 8B1
abbrev pub with_power : Station → Option ℤ → Station
with_power s v = with_value 15 s v

-- 9A
abbrev pub with_azimuth : Station → Option ℤ → Station
with_azimuth s v = with_value 17 s v

-- 9B
abbrev pub with_elevation : Station → Option ℤ → Station
with_elevation s v = with_value 18 s v

-- 4Z
abbrev pub with_height : Station → Option Metres → Station
with_height s v = with_value 13 s v

-- 9Y
abbrev pub with_ground : Station → Metres → Station
with_ground s v = with_value 21 s v
