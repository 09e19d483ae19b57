-- `operator_numbers::put_megahertz` meets its contract: the whole megahertz, a point and the fraction.
use Rattle.printing.proofs.AppendLaws.{then}
use Rattle.operator_numbers.specs.Frequencies.{megahertz}
use native.Mathlib.Omega.{arith}
use Rattle.operator_numbers.proofs.put_megahertz.Goals as goal

pub returns : goal.returns
unfolding megahertz
returns c = record {
  appended = then c.put_digits_of-whole_end.ensures.appended (then c.put_text-point_end.ensures (rw c.without_zeros-short.ensures.0 at c.put_columns.ensures.appended));
  upper_bound = omega (arith, c.put_digits_of-whole_end.ensures.upper_bound, c.put_text-point_end.ensures.ends, c.put_columns.ensures.upper_bound, c.without_zeros-short.ensures.1);
}
