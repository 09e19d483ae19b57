-- `joining::put_line` meets its contract: so many fields stand, and the others are still to come.
use mathlib.Core.Path.{◌≡◌}
use Prim.Native.Nat.{◌-◌}
use lib.ListN.{length}
use Rattle.station.specs.Places.{station_places}
use Rattle.semicolons.specs.Fields.{station_sides}
use Rattle.joining.proofs.OutLaws.{Lined}
use Rattle.joining.proofs.put_line.Given as goal

abbrev pub invariant-loop-k : goal.invariant-loop-k
invariant-loop-k l = (length l.out ≡ 249) × Lined station_sides station_places l.rec l.out l.k l.column l.at
