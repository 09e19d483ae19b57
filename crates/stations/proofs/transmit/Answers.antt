-- `stations::transmit` meets its contract: 1A keeps its rule where the station breaks none.
use mathlib.Core.Path.{ap, ◌∙◌}
use mathlib.Core.List.{List}
use Prim.Native.Nat.{ℕ}
use native.Mathlib.Omega.{arith}
use lib.ListN.{take, drop}
use Rattle.station.specs.Places.{fields_of}
use Rattle.frequencies.specs.Frequencies.{frequency_of}
use Rattle.stations.specs.Stations.{transmit_at}
use Rattle.stations.proofs.StationLaws.{column_there, amount_wide}
use Rattle.stations.proofs.GoodLaws.{amount_holds}
use Rattle.stations.proofs.transmit.Goals as goal

pub slice_bounds-frequency_in-end : goal.slice_bounds-frequency_in-end
slice_bounds-frequency_in-end c =
    column_there c.args.file.now c.args.k c.requires.0 c.whole_record-rec.ensures 11 (omega arith)

pub slice_bounds-frequency_in-end-2 : goal.slice_bounds-frequency_in-end-2
slice_bounds-frequency_in-end-2 c =
    column_there c.args.file.now c.args.k c.requires.0 c.whole_record-rec.ensures 12 (omega arith)

pub frequency_in-requires : goal.frequency_in-requires
unfolding fields_of
frequency_in-requires c =
    let file = c.args.file.now in
    rw c.whole_record-rec.ensures (amount_wide file c.args.k c.requires.0, amount_holds file c.args.k c.requires.1)

pub returns : goal.returns
unfolding transmit_at fields_of
returns c = c.frequency_in.ensures ∙ ap (λ (r : List ℕ). frequency_of (take 11 (drop 0 r)) (take 1 (drop 11 r))) c.whole_record-rec.ensures
