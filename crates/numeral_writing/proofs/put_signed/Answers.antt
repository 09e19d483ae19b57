-- `numeral_writing::put_signed` meets its contract.
use mathlib.Core.Path.{◌≡◌, ◌∙◌}
use mir.Facts.{to_z-of_z}
use Rattle.numerals.specs.Numbers.{is_negative, spell_signed}
use Rattle.numerals.proofs.Spelling.{put-minus}
use Rattle.numeral_writing.proofs.put_signed.Goals as goal
use Rattle.numeral_writing.proofs.put_signed.Goals.{After-is_negative}

-- the sign was told
told : (c : After-is_negative) → c.is_negative.result ≡ is_negative c.args.v
told c = rw (to_z-of_z c.ranges.v) at c.is_negative.ensures

pub returns-then-is_negative : goal.returns-then-is_negative
unfolding spell_signed
returns-then-is_negative c =
    put-minus c.args.s.now c.put_digits.new.s _ c.requires c.put_digits.ensures.1
    ∙ rw (← (told (goal.at.returns-then-is_negative c).After-is_negative), c.if-is_negative.true, c.magnitude.ensures, to_z-of_z c.ranges.v)

pub returns : goal.returns
unfolding spell_signed
returns c =
    c.put_whole.ensures ∙ rw (← (told (goal.at.returns c).After-is_negative), c.if-is_negative.false, c.magnitude-2.ensures, to_z-of_z c.ranges.v)
