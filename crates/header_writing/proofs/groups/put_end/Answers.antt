-- `header_writing::groups::put_end` meets its contract: each field is written after the one before it.
use mathlib.Core.Path.{◌≡◌}
use lib.ListN.{length}
use Rattle.serials.specs.Serials.{spell_serial}
use Rattle.header.specs.Spelling.{header_pieces}
use Rattle.basics.proofs.WriteLaws.{nothing_yet, then_one, then_text, all_written}
use native.Mathlib.Omega.{arith}
use borrow.Author.Rules.{rules}
use Rattle.header_writing.proofs.groups.put_end.Goals as goal
use Rattle.header_writing.proofs.groups.put_end.Goals.{Start}

-- the texts have the width of their columns
version_wide : (c : Start) → length c.args.h.version ≡ 3
version_wide c = search rules

reserve_wide : (c : Start) → length c.args.h.reserve ≡ 7
reserve_wide c = search rules

pub returns : goal.returns
unfolding header_pieces
returns c =
    let l : length c.args.s.now ≡ 16 = c.requires in
    let w0 = nothing_yet c.args.s.now in
    let w1 = then_one w0 6 (omega arith) (spell_serial c.args.h.serial) c.put_serial.ensures c.put_serial.auto.s in
    let w2 = then_text w1 3 (omega arith) c.args.h.version c.write_text.ensures.s_after (version_wide (goal.at.returns c).Start) c.write_text.auto.s in
    let w3 = then_text w2 7 (omega arith) c.args.h.reserve c.write_text-2.ensures.s_after (reserve_wide (goal.at.returns c).Start) c.write_text-2.auto.s in
    all_written w3 l
