-- The rules between fields in the two parts in which the code asks them. Nothing is meant here that their table does not say.
use Rattle.std.specs.Prelude.{Bool, List, take, drop}
use Rattle.station.specs.Between.{between_table, never_of}
use Rattle.station.specs.declared.Station.{Station}

-- Those of frequencies, radius and azimuth, 31 to 34,
unfoldable pub first_between : Station → List Bool
first_between s = never_of (take 4 between_table) s

-- and those of antennas, height, gain and name, 35 to 39.
unfoldable pub last_between : Station → List Bool
last_between s = never_of (drop 4 between_table) s
