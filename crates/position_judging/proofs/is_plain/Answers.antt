-- `position_judging::is_plain` meets its contract: what it asks of the columns is enough for the rule.
use mathlib.Core.Bool.{false≢true}
use Rattle.columns.specs.Sets.{among}
use Rattle.position_judging.proofs.PlainLaws.{plain_place}
use Rattle.position_judging.proofs.is_plain.Goals as goal

pub returns-then-s-ne15 : goal.returns-then-s-ne15
returns-then-s-ne15 c e = absurd (false≢true e)

pub returns : goal.returns
unfolding among
returns c e =
    plain_place c.args.s.now c.if-s-ne15.false
    (rw (c.is_hemisphere.ensures, c.is_hemisphere-2.ensures, c.is_framed.ensures, c.is_framed-2.ensures, c.is_framed-3.ensures) at e)
