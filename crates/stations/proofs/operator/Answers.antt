-- `stations::operator` meets its contract.
use mathlib.Core.Path.{ap}
use mathlib.Core.List.{List}
use Prim.Native.Nat.{ℕ}
use native.Mathlib.Omega.{arith}
use lib.ListN.{take, drop}
use Rattle.stations.specs.Stations.{operator_at}
use Rattle.stations.proofs.StationLaws.{reference_wide}
use Rattle.stations.proofs.operator.Goals as goal

pub slice_bounds-result-end : goal.slice_bounds-result-end
slice_bounds-result-end c =
    rw (c.reference-mine.ensures, reference_wide c.args.file.now c.args.k c.requires) (omega arith)

pub returns : goal.returns
unfolding operator_at
returns c = ap (λ (x : List ℕ). take 2 (drop 5 x)) c.reference-mine.ensures
