-- What the call on a record promises, as a relation between what it is given and its answer.
use Rattle.std.specs.Prelude.{ℕ, ◌≡◌, List}
use Rattle.station.specs.Calls.{read_outcome}
use Rattle.station_flaws.specs.Calls.{flaw_of_reading}
use Rattle.station_flaws.specs.declared.Explained.{Explained}

-- `explain_station` on a record: how reading it ends, and the flaw that comes with its code.
abbrev pub StationExplained : List ℕ → Explained → Type 0
StationExplained r answer = (answer.outcome ≡ read_outcome r) × (answer.flaw ≡ flaw_of_reading r)
