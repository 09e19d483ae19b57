-- `tenths::is_tenths` meets its contract: each arm is the answer that the columns say.
use native.Mathlib.Omega.{arith}
use Rattle.formats.specs.Tenths.{tenths_good}
use Rattle.numerals.proofs.Signs.{in_bits}
use Rattle.tenths.proofs.is_tenths.Goals as goal

pub returns-in-Err : goal.returns-in-Err
unfolding tenths_good
returns-in-Err c = rw (← c.read_decimal.ensures, c.in-Err.is)

pub returns-in-Ok-None : goal.returns-in-Ok-None
unfolding tenths_good
returns-in-Ok-None c = rw (← c.read_decimal.ensures, c.in-Ok-None.is, c.in-Ok-None.field-0-is)

pub returns-in-Ok-Some : goal.returns-in-Ok-Some
unfolding tenths_good
returns-in-Ok-Some c =
    rw (c.in_range.ensures, in_bits c.in-Ok-Some.v (omega arith), ← c.read_decimal.ensures, c.in-Ok-Some.is, c.in-Ok-Some.field-0-is)
