-- `header_writing::groups::put_file` meets its contract: each field is written after the one before it.
use mathlib.Core.Path.{◌≡◌, refl}
use lib.ListN.{length}
use Prim.Native.Nat.{ℕ}
use mathlib.Core.List.{[], ◌∷◌}
use Rattle.numerals.specs.Numbers.{spell_whole}
use Rattle.header.specs.Spelling.{header_pieces}
use Rattle.basics.proofs.WriteLaws.{nothing_yet, then_text, then-sized, all_written}
use native.Mathlib.Omega.{arith}
use borrow.Author.Rules.{rules}
use Rattle.header_writing.proofs.groups.put_file.Goals as goal
use Rattle.header_writing.proofs.groups.put_file.Goals.{Start}

-- the texts have the width of their columns
content_wide : (c : Start) → length c.args.h.content ≡ 80
content_wide c = search rules

origin_wide : (c : Start) → length c.args.h.origin ≡ 3
origin_wide c = search rules

pub returns : goal.returns
unfolding header_pieces
returns c =
    let l : length c.args.s.now ≡ 86 = c.requires in
    let w0 = nothing_yet c.args.s.now in
    let w1 = then-sized w0 2 (omega arith) (λ (n : ℕ). spell_whole n c.args.h.number) c.put_whole.ensures c.put_whole.auto.s in
    let w2 = then_text w1 80 (omega arith) c.args.h.content c.write_text.ensures.s_after (content_wide (goal.at.returns c).Start) c.write_text.auto.s in
    let w3 = then_text w2 1 (omega arith) (c.args.h.letter ∷ []) c.write_byte.ensures.s_after refl c.write_byte.auto.s in
    let w4 = then_text w3 3 (omega arith) c.args.h.origin c.write_text-2.ensures.s_after (origin_wide (goal.at.returns c).Start) c.write_text-2.auto.s in
    all_written w4 l
