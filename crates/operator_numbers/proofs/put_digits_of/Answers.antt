-- `operator_numbers::put_digits_of` meets its contract: as many columns as the number has digits.
use Rattle.operator_numbers.specs.Frequencies.{in_digits}
use native.Mathlib.Omega.{arith}
use Rattle.operator_numbers.proofs.put_digits_of.Goals as goal

pub returns : goal.returns
unfolding in_digits
returns c = record {
  appended = rw c.digits_in.ensures.0 at c.put_columns.ensures.appended;
  upper_bound = omega (arith, c.put_columns.ensures.upper_bound, c.digits_in.ensures.1);
}
