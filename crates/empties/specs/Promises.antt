-- What the calls promise that hand out the empty header and the empty station.
use Rattle.std.specs.Prelude.{◌≡◌}
use Rattle.header.specs.Values.{empty_header}
use Rattle.header.specs.declared.Header.{Header}
use Rattle.station.specs.Values.{empty_station}
use Rattle.station.specs.declared.Station.{Station}

-- `empty_header`: the header that a refused reading hands back.
abbrev pub HeaderEmpty : Header → Type 0
HeaderEmpty answer = answer ≡ empty_header

-- `empty_station`: the station that a refused reading hands back.
abbrev pub StationEmpty : Station → Type 0
StationEmpty answer = answer ≡ empty_station
