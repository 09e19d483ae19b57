-- `stations::reference` meets its contract.
use mathlib.Core.Path.{ap}
use mathlib.Core.List.{List}
use Prim.Native.Nat.{ℕ}
use native.Mathlib.Omega.{arith}
use lib.ListN.{take, drop}
use Rattle.station.specs.Places.{fields_of}
use Rattle.stations.specs.Stations.{reference_at}
use Rattle.stations.proofs.StationLaws.{column_there}
use Rattle.stations.proofs.reference.Goals as goal

pub slice_bounds-result-end : goal.slice_bounds-result-end
slice_bounds-result-end c =
    column_there c.args.file.now c.args.k c.requires c.whole_record-rec.ensures 219 (omega arith)

pub returns : goal.returns
unfolding reference_at fields_of
returns c = ap (λ (r : List ℕ). take 15 (drop 204 r)) c.whole_record-rec.ensures
