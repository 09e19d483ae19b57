-- `filling::put_fields` meets its contract: so many fields stand, and the others are still to come.
use mathlib.Core.Path.{◌≡◌}
use lib.ListN.{length}
use Rattle.station.specs.Places.{station_places}
use Rattle.semicolons.specs.Fields.{station_sides}
use Rattle.filling.proofs.FillLaws.{Filled}
use Rattle.filling.proofs.put_fields.Given as goal

abbrev pub invariant-loop-k : goal.invariant-loop-k
invariant-loop-k l = (length l.rec ≡ 219) × Filled station_sides station_places l.line l.rec l.k l.at l.column
