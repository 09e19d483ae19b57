-- `sender_writing::put_sending` meets its contract: each field is written after the one before it.
use mathlib.Core.Path.{◌≡◌}
use mathlib.Core.Bool.{true, false≢true}
use lib.ListN.{length}
use Prim.Native.Nat.{ℕ}
use Rattle.numerals.specs.Numbers.{spell_whole}
use Rattle.days.specs.Dates.{day_fits, spell_day, date_fits}
use Rattle.header.specs.Spelling.{header_pieces}
use Rattle.basics.proofs.WriteLaws.{nothing_yet, then_fitting, then_text, then-sized, all_written}
use native.Mathlib.Omega.{arith}
use borrow.Author.Rules.{rules}
use Rattle.sender_writing.proofs.put_sending.Goals as goal
use Rattle.sender_writing.proofs.put_sending.Goals.{Start}
use Rattle.std.specs.Prelude.{Option, Some, None}
use Rattle.days.specs.declared.dates.Date.{Date}

-- a date that may not be blank fits where it may
may_stand : (v : Option Date) → date_fits v ≡ true → day_fits v ≡ true
unfolding date_fits day_fits
may_stand None e = absurd (false≢true e)
may_stand (Some d) e = e

-- the texts have the width of their columns
destination_wide : (c : Start) → length c.args.h.destination ≡ 3
destination_wide c = search rules

pub returns : goal.returns
unfolding header_pieces
returns c =
    let l : length c.args.s.now ≡ 17 = c.requires.0 in
    let w0 = nothing_yet c.args.s.now in
    let w1 = then-sized w0 6 (omega arith) (λ (n : ℕ). spell_whole n c.args.h.count) c.put_whole.ensures c.put_whole.auto.s in
    let w2 = then_fitting w1 8 (omega arith) (spell_day c.args.h.date) c.write_day.ensures.s_after (may_stand c.args.h.date c.requires.1) c.write_day.auto.s in
    let w3 = then_text w2 3 (omega arith) c.args.h.destination c.write_text.ensures.s_after (destination_wide (goal.at.returns c).Start) c.write_text.auto.s in
    all_written w3 l
