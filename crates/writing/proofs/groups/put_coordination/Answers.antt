-- `writing::groups::put_coordination` meets its contract: each field is written after the one before it.
use mathlib.Core.Path.{◌≡◌}
use lib.ListN.{length, drop}
use Rattle.frequencies.specs.Frequencies.{spell_amount, spell_unit}
use Rattle.station_groups.specs.Groups.{coordination_pieces}
use Rattle.basics.proofs.WriteLaws.{nothing_yet, then_one, then_text, then_some, all_written}
use native.Mathlib.Omega.{arith}
use borrow.Author.Rules.{rules}
use Rattle.writing.proofs.groups.put_coordination.Goals as goal
use Rattle.writing.proofs.groups.put_coordination.Goals.{Start}

-- the texts have the width of their columns
remarks_wide : (c : Start) → length c.args.g.remarks ≡ 50
remarks_wide c = search rules

pub returns : goal.returns
unfolding coordination_pieces
returns c =
    let g = c.args.g in
    let l : length c.args.s.now ≡ 94 = c.requires in
    let w0 = nothing_yet c.args.s.now in
    let w1 = then_one w0 11 (omega arith) (spell_amount g.receive) c.put_amount.ensures c.put_amount.auto.s in
    let w2 = then_one w1 1 (omega arith) (spell_unit g.receive) c.put_unit.ensures c.put_unit.auto.s in
    let w3 = then_text w2 50 (omega arith) g.remarks c.write_text.ensures.s_after (remarks_wide (goal.at.returns c).Start) c.write_text.auto.s in
    let w4 = then_some w3 32 (omega arith) (drop 3 (coordination_pieces g)) c.put_status.ensures c.put_status.auto.s in
    all_written w4 l
