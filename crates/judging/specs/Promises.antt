-- What the call on a station's record promises, as a relation between what it is given and its answer.
use Rattle.basics.specs.Outcomes.{Outcome}
use Rattle.std.specs.Prelude.{ℕ, ◌≡◌, List}
use Rattle.station.specs.Calls.{read_outcome}

-- `check_station` on a record: how reading it ends.
abbrev pub StationChecked : List ℕ → Outcome → Type 0
StationChecked r answer = answer ≡ read_outcome r
