-- `sender_writing::put_sender` meets its contract: each field is written after the one before it.
use mathlib.Core.Path.{◌≡◌, sym}
use lib.ListN.{length, replicate}
use Prim.Native.Nat.{ℕ}
use Rattle.header.specs.Spelling.{header_pieces}
use Rattle.basics.proofs.WriteLaws.{nothing_yet, then_text, then-sized, all_written}
use native.Mathlib.Omega.{arith}
use borrow.Author.Rules.{rules}
use Rattle.sender_writing.proofs.put_sender.Goals as goal
use Rattle.sender_writing.proofs.put_sender.Goals.{Start}

-- the texts have the width of their columns
mail_wide : (c : Start) → length c.args.h.mail ≡ 40
mail_wide c = search rules

telephone_wide : (c : Start) → length c.args.h.telephone ≡ 20
telephone_wide c = search rules

person_wide : (c : Start) → length c.args.h.person ≡ 20
person_wide c = search rules

pub slice_bounds-write_text-end-6 : goal.slice_bounds-write_text-end-6
slice_bounds-write_text-end-6 c = sym (person_wide (goal.at.slice_bounds-write_text-end-6 c).Start)

pub returns : goal.returns
unfolding header_pieces
returns c =
    let l : length c.args.s.now ≡ 100 = c.requires in
    let w0 = nothing_yet c.args.s.now in
    let w1 = then_text w0 40 (omega arith) c.args.h.mail c.write_text.ensures.s_after (mail_wide (goal.at.returns c).Start) c.write_text.auto.s in
    let w2 = then_text w1 20 (omega arith) c.args.h.telephone c.write_text-2.ensures.s_after (telephone_wide (goal.at.returns c).Start) c.write_text-2.auto.s in
    let w3 = then-sized w2 20 (omega arith) (λ (n : ℕ). replicate n 32) c.write_blank.ensures c.write_blank.auto.s in
    let w4 = then_text w3 20 (omega arith) c.args.h.person c.write_text-3.ensures.s_after (person_wide (goal.at.returns c).Start) c.write_text-3.auto.s in
    all_written w4 l
