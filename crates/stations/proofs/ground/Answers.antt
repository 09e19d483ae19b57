-- `stations::ground` meets its contract.
use mathlib.Core.Path.{ap, ◌∙◌}
use mathlib.Core.List.{List}
use Prim.Native.Nat.{ℕ}
use native.Mathlib.Omega.{arith}
use lib.ListN.{take, drop}
use Rattle.station.specs.Places.{fields_of}
use Rattle.distances.specs.Distances.{ground_of}
use Rattle.stations.specs.Stations.{ground_at}
use Rattle.stations.proofs.StationLaws.{column_there}
use Rattle.stations.proofs.ground.Goals as goal

pub slice_bounds-read_ground-end : goal.slice_bounds-read_ground-end
slice_bounds-read_ground-end c =
    column_there c.args.file.now c.args.k c.requires c.whole_record-rec.ensures 111 (omega arith)

pub returns : goal.returns
unfolding ground_at fields_of
returns c = c.read_ground.ensures ∙ ap (λ (r : List ℕ). ground_of (take 4 (drop 107 r))) c.whole_record-rec.ensures
