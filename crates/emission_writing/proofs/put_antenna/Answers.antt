-- `emission_writing::put_antenna` meets its contract: each field is written after the one before it.
use mathlib.Core.Path.{◌≡◌}
use mathlib.Core.Bool.{false}
use lib.ListN.{length, drop}
use Rattle.formats.specs.Tenths.{spell_tenths}
use Rattle.distances.specs.Distances.{spell_ground}
use Rattle.station_groups.specs.Groups.{antenna_pieces}
use Rattle.basics.proofs.WriteLaws.{nothing_yet, then_one, then_text, then_some, all_written}
use native.Mathlib.Omega.{arith}
use borrow.Author.Rules.{rules}
use Rattle.emission_writing.proofs.put_antenna.Goals as goal
use Rattle.emission_writing.proofs.put_antenna.Goals.{Start}

-- the texts have the width of their columns
polarisation_wide : (c : Start) → length c.args.g.polarisation ≡ 2
polarisation_wide c = search rules

pub returns : goal.returns
unfolding antenna_pieces
returns c =
    let g = c.args.g in
    let l : length c.args.s.now ≡ 24 = c.requires in
    let w0 = nothing_yet c.args.s.now in
    let w1 = then_text w0 2 (omega arith) g.polarisation c.write_text.ensures.s_after (polarisation_wide (goal.at.returns c).Start) c.write_text.auto.s in
    let w2 = then_one w1 4 (omega arith) (spell_tenths 2 1 false g.gain) c.put_tenths.ensures c.put_tenths.auto.s in
    let w3 = then_one w2 4 (omega arith) (spell_ground g.ground) c.put_ground.ensures c.put_ground.auto.s in
    let w4 = then_some w3 14 (omega arith) (drop 3 (antenna_pieces g)) c.put_types.ensures c.put_types.auto.s in
    all_written w4 l
