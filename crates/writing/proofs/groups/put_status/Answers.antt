-- `writing::groups::put_status` meets its contract: each field is written after the one before it.
use mathlib.Core.Path.{◌≡◌, refl}
use mathlib.Core.List.{[], ◌∷◌}
use lib.ListN.{length}
use Rattle.days.specs.Dates.{spell_day}
use Rattle.station_groups.specs.Groups.{coordination_pieces}
use Rattle.basics.proofs.WriteLaws.{nothing_yet, then_one, then_text, all_written}
use native.Mathlib.Omega.{arith}
use borrow.Author.Rules.{rules}
use Rattle.writing.proofs.groups.put_status.Goals as goal
use Rattle.writing.proofs.groups.put_status.Goals.{Start}

-- the texts have the width of their columns
reference_wide : (c : Start) → length c.args.g.reference ≡ 15
reference_wide c = search rules

pub returns : goal.returns
unfolding coordination_pieces
returns c =
    let g = c.args.g in
    let l : length c.args.s.now ≡ 32 = c.requires in
    let w0 = nothing_yet c.args.s.now in
    let w1 = then_text w0 1 (omega arith) (g.status ∷ []) c.write_byte.ensures.s_after refl c.write_byte.auto.s in
    let w2 = then_one w1 8 (omega arith) (spell_day g.requested) c.put_day.ensures c.put_day.auto.s in
    let w3 = then_one w2 8 (omega arith) (spell_day g.coordinated) c.put_day-2.ensures c.put_day-2.auto.s in
    let w4 = then_text w3 15 (omega arith) g.reference c.write_text.ensures.s_after (reference_wide (goal.at.returns c).Start) c.write_text.auto.s in
    all_written w4 l
