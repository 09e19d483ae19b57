-- What the calls on a station's record promise, as relations between what they are given and their answer.
use Rattle.basics.specs.Outcomes.{Outcome}
use Rattle.std.specs.Prelude.{ℕ, ◌≡◌, List}
use Rattle.station.specs.Calls.{read_outcome, read_station}
use Rattle.reading.specs.declared.typed.ReadStation.{ReadStation}

-- `read_station` on a record: how it ends, and the station that it hands back.
abbrev pub StationRead : List ℕ → ReadStation → Type 0
StationRead r answer = (answer.outcome ≡ read_outcome r) × (answer.station ≡ read_station r)
