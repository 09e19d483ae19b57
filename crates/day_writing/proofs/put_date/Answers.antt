-- `day_writing::put_date` meets its contract: each number is written in front of the next.
use mathlib.Core.List.{[]}
use Rattle.numerals.specs.Numbers.{spell_digits}
use Rattle.days.specs.Dates.{spell_date}
use Rattle.numerals.proofs.Spelling.{put_last, put-before}
use native.Mathlib.Omega.{arith}
use Rattle.day_writing.proofs.put_date.Goals as goal

pub returns : goal.returns
unfolding spell_date
returns c =
    let s = c.args.s.now in
    let d = c.args.d in
    let year = put_last s c.put_digits.new.s 4 4 d.year c.requires c.put_digits.ensures.1 in
    let month = put-before s c.put_digits.new.s c.put_digits-2.new.s (spell_digits 4 d.year []) 2 2 d.month (omega arith) year c.put_digits-2.ensures.1 in
    put-before s c.put_digits-2.new.s c.put_digits-3.new.s (spell_digits 2 d.month (spell_digits 4 d.year [])) 0 2 d.day (omega arith) month c.put_digits-3.ensures.1
