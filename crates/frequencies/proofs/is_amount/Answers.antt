-- `frequencies::is_amount` meets its contract: in its one spelling it is a decimal above zero, and else each arm is the answer that the columns say.
use mathlib.Core.Path.{sym}
use native.Mathlib.Omega.{arith}
use Rattle.frequencies.specs.Frequencies.{amount_good}
use Rattle.numerals.proofs.Signs.{in_bits}
use Rattle.frequencies.proofs.is_amount.Goals as goal

pub returns-then-is_plain_amount : goal.returns-then-is_plain_amount
returns-then-is_plain_amount c = sym (c.is_plain_amount.ensures c.if-is_plain_amount.true)

pub returns-in-Err : goal.returns-in-Err
unfolding amount_good
returns-in-Err c = rw (← c.read_decimal.ensures, c.in-Err.is)

pub returns-in-Ok-None : goal.returns-in-Ok-None
unfolding amount_good
returns-in-Ok-None c = rw (← c.read_decimal.ensures, c.in-Ok-None.is, c.in-Ok-None.field-0-is)

pub returns-in-Ok-Some : goal.returns-in-Ok-Some
unfolding amount_good
returns-in-Ok-Some c =
    rw (c.magnitude.ensures, in_bits c.in-Ok-Some.v (omega arith), ← c.read_decimal.ensures, c.in-Ok-Some.is, c.in-Ok-Some.field-0-is)
