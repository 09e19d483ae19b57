-- `stations::position` meets its contract.
use mathlib.Core.Path.{ap, ◌∙◌}
use mathlib.Core.List.{List}
use Prim.Native.Nat.{ℕ}
use native.Mathlib.Omega.{arith}
use lib.ListN.{take, drop}
use Rattle.station.specs.Places.{fields_of}
use Rattle.positions.specs.Positions.{located_of}
use Rattle.stations.specs.Stations.{position_at}
use Rattle.stations.proofs.StationLaws.{column_there}
use Rattle.stations.proofs.position.Goals as goal

pub slice_bounds-read_position-end : goal.slice_bounds-read_position-end
slice_bounds-read_position-end c =
    column_there c.args.file.now c.args.k c.requires c.whole_record-rec.ensures 66 (omega arith)

pub returns : goal.returns
unfolding position_at fields_of
returns c = c.read_position.ensures ∙ ap (λ (r : List ℕ). located_of (take 15 (drop 51 r))) c.whole_record-rec.ensures
