-- What writing a station promises, as a relation between what it is given, its answer and what it leaves in the lent bytes.
use Rattle.basics.specs.Outcomes.{Outcome}
use Rattle.std.specs.Prelude.{ℕ, ◌≡◌, List}
use Rattle.station.specs.Calls.{write_outcome, written_station}
use Rattle.station.specs.declared.Station.{Station}

-- `write_station` of a station into a buffer: how it ends, and what the buffer holds after it.
abbrev pub StationWritten : Station → List ℕ → Outcome → List ℕ → Type 0
StationWritten s before answer after = (answer ≡ write_outcome s before) × (after ≡ written_station s before)
