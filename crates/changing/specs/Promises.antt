-- What changing a value promises, as relations between what it is given, its answer and what it leaves.
use Rattle.basics.specs.Outcomes.{Outcome}
use Rattle.std.specs.Prelude.{ℕ, ◌≡◌, List}
use Rattle.station.specs.declared.Station.{Station}
use Rattle.changing.specs.Changing.{change_outcome, changed_record}

-- `change_power` and the others: a change to the station that a record says.
abbrev pub RecordChanged : (Station → Station) → List ℕ → Outcome → List ℕ → Type 0
RecordChanged change before answer after = (answer ≡ change_outcome change before) × (after ≡ changed_record change before)
