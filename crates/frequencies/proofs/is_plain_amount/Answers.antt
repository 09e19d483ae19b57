-- `frequencies::is_plain_amount` meets its contract: what it asks of the columns is enough for the rule.
use mathlib.Core.Bool.{false≢true}
use Rattle.frequencies.proofs.PlainAmounts.{plain-amount}
use Rattle.frequencies.proofs.is_plain_amount.Goals as goal

pub returns-then-p-ne11 : goal.returns-then-p-ne11
returns-then-p-ne11 c e = absurd (false≢true e)

pub returns-then-p-ne46 : goal.returns-then-p-ne46
returns-then-p-ne46 c e = absurd (false≢true e)

pub returns : goal.returns
returns c e =
    plain-amount c.args.p.now c.if-p-ne11.false c.if-p-ne46.false (rw (c.all_in.ensures, c.all_in-2.ensures) at e)
