-- What the call of the second judge promises to callers in C: the words of the first's, `desk_station_kind`.
use Rattle.std.specs.Prelude.{ℕ, ◌≡◌, List}
use Rattle.flaws.specs.Flaws.{flaw_number}
use Rattle.station.specs.Calls.{read_outcome}
use Rattle.station_flaws.specs.Calls.{flaw_of_reading}
use Rattle.answers.specs.Endings.{Answered}

-- `desk_station_second` on a record: how reading it ends, its code, and the number of the flaw that comes with the code.
abbrev pub StationSecondTold : List ℕ → ℕ → ℕ → ℕ → Type 0
StationSecondTold r answer code kind = Answered (read_outcome r) answer code × (kind ≡ flaw_number (flaw_of_reading r))
