-- What the calls on typed stations promise, as relations between what they are given and their answer.
use Rattle.std.specs.Prelude.{ℕ, ◌≡◌, Option, ℤ}
use Rattle.distances.specs.declared.Metres.{Metres}
use Rattle.station.specs.Codes.{typed_code}
use Rattle.station.specs.Calls.{set_outcome, set_station}
use Rattle.station.specs.Setting.{with_power, with_azimuth, with_elevation, with_height, with_ground}
use Rattle.station.specs.declared.Station.{Station}
use Rattle.station.specs.declared.setting.Settled.{Settled}

-- `typed_code` on a station: the first rule that it breaks.
abbrev pub StationJudged : Station → ℕ → Type 0
StationJudged s answer = answer ≡ typed_code s

-- A station is given and a changed one judged: how it ends, and the station that is handed back.
abbrev pub StationSet : Station → Station → Settled → Type 0
StationSet given changed answer = (answer.outcome ≡ set_outcome changed) × (answer.station ≡ set_station given changed)

-- `set_power`, 8B1
abbrev pub PowerSet : Station → Option ℤ → Settled → Type 0
PowerSet s v answer = StationSet s (with_power s v) answer

-- `set_azimuth`, 9A
abbrev pub AzimuthSet : Station → Option ℤ → Settled → Type 0
AzimuthSet s v answer = StationSet s (with_azimuth s v) answer

-- `set_elevation`, 9B
abbrev pub ElevationSet : Station → Option ℤ → Settled → Type 0
ElevationSet s v answer = StationSet s (with_elevation s v) answer

-- `set_height`, 4Z
abbrev pub HeightSet : Station → Option Metres → Settled → Type 0
HeightSet s v answer = StationSet s (with_height s v) answer

-- `set_ground`, 9Y
abbrev pub GroundSet : Station → Metres → Settled → Type 0
GroundSet s v answer = StationSet s (with_ground s v) answer
