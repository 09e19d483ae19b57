-- `position_writing::letter_of` meets its contract: the sign was told.
use mathlib.Core.Path.{◌≡◌}
use mir.Facts.{to_z-of_z}
use Rattle.numerals.specs.Numbers.{is_negative}
use Rattle.position_writing.proofs.letter_of.Goals as goal
use Rattle.position_writing.proofs.letter_of.Goals.{After-is_negative}

-- the sign was told
told : (c : After-is_negative) → c.is_negative.result ≡ is_negative c.args.v
told c = rw (to_z-of_z c.ranges.v) at c.is_negative.ensures

pub returns-then-is_negative : goal.returns-then-is_negative
returns-then-is_negative c = rw (← (told (goal.at.returns-then-is_negative c).After-is_negative), c.if-is_negative.true)

pub returns-else-is_negative : goal.returns-else-is_negative
returns-else-is_negative c = rw (← (told (goal.at.returns-else-is_negative c).After-is_negative), c.if-is_negative.false)
