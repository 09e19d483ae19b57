-- `numerals::read_whole` meets its contract.
use mathlib.Core.Path.{ap, ◌∙◌}
use Rattle.numerals.specs.Numbers.{whole_digits, whole_of}
use Rattle.columns.proofs.TextLaws.{at_end, not_at_end, from_on}
use Rattle.numerals.proofs.read_whole.Goals as goal

pub returns-then-i-s : goal.returns-then-i-s
unfolding whole_of
returns-then-i-s c = rw (c.spaces-i.ensures.1, at_end _ _ c.if-i-s.true)

pub returns : goal.returns
unfolding whole_of
returns c =
    rw (c.spaces-i.ensures.1, not_at_end _ _ c.spaces-i.ensures.0 c.if-i-s.false) (c.only_digits.ensures ∙ ap whole_digits (from_on c.args.s.now c.spaces-i.result))
