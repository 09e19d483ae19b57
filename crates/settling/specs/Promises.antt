-- What settling a record promises, as a relation between what it is given, its answer and what it leaves.
use Rattle.std.specs.Prelude.{ℕ, ◌≡◌, List}
use Rattle.basics.specs.Outcomes.{if_done, Outcome}
use Rattle.station.specs.Calls.{write_outcome, written_station}
use Rattle.station.specs.declared.setting.Settled.{Settled}
use Rattle.reading.specs.declared.typed.ReadStation.{ReadStation}

-- The outcome of a second call, where the first was done.
unfoldable pub then : Outcome → Outcome → Outcome
then first second = if_done first second first

-- A station read from a record, then set, then written back: each only where nothing was refused before.
abbrev pub RecordSettled : ReadStation → Settled → List ℕ → Outcome → List ℕ → Type 0
RecordSettled read settled before answer after =
    (answer ≡ then read.outcome (then settled.outcome (write_outcome settled.station before)))
    × (after ≡ if_done read.outcome (if_done settled.outcome (written_station settled.station before) before) before)
