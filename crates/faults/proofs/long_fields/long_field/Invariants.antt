-- `faults::long_fields::long_field` meets its contract: so many fields are passed, and the others are still to come.
use Prim.Native.Nat.{◌-◌}
use Rattle.station.specs.Places.{station_places}
use Rattle.faults.proofs.LookLaws.{Looked}
use Rattle.faults.proofs.long_fields.long_field.Given as goal

abbrev pub invariant-loop-k : goal.invariant-loop-k
invariant-loop-k l = Looked station_places l.line l.k l.at
