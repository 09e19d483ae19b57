-- `emission_writing::put_types` meets its contract: each field is written after the one before it.
use mathlib.Core.Path.{◌≡◌}
use lib.ListN.{length}
use Rattle.station_groups.specs.Groups.{antenna_pieces}
use Rattle.basics.proofs.WriteLaws.{nothing_yet, then_text, all_written}
use native.Mathlib.Omega.{arith}
use borrow.Author.Rules.{rules}
use Rattle.emission_writing.proofs.put_types.Goals as goal
use Rattle.emission_writing.proofs.put_types.Goals.{Start}

-- the texts have the width of their columns
horizontal_wide : (c : Start) → length c.args.g.horizontal ≡ 7
horizontal_wide c = search rules

vertical_wide : (c : Start) → length c.args.g.vertical ≡ 7
vertical_wide c = search rules

pub returns : goal.returns
unfolding antenna_pieces
returns c =
    let g = c.args.g in
    let l : length c.args.s.now ≡ 14 = c.requires in
    let w0 = nothing_yet c.args.s.now in
    let w1 = then_text w0 7 (omega arith) g.horizontal c.write_text.ensures.s_after (horizontal_wide (goal.at.returns c).Start) c.write_text.auto.s in
    let w2 = then_text w1 7 (omega arith) g.vertical c.write_text-2.ensures.s_after (vertical_wide (goal.at.returns c).Start) c.write_text-2.auto.s in
    all_written w2 l
