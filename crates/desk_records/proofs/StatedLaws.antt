-- A value that is stated in numbers, set on a record.
use Rattle.basics.specs.Outcomes.{Outcome}
use mathlib.Core.Path.{◌≡◌, ap, subst, ◌∙◌}
use mathlib.Core.List.{List}
use Prim.Native.Nat.{ℕ}
use Rattle.station.specs.declared.Station.{Station}
use Rattle.changing.specs.Promises.{RecordChanged}

-- A change to a value that is stated is the change to the value that it says.
pub value_stated : {A : Type 0} (put : Station → A → Station) {v stated : A} → v ≡ stated → (r : List ℕ) {o : Outcome} {after : List ℕ}
    → RecordChanged (λ s. put s v) r o after → RecordChanged (λ s. put s stated) r o after
value_stated {A} put e r {o} {after} h = subst (λ (x : A). RecordChanged (λ s. put s x) r o after) e h
