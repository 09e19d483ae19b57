-- `operator_lines::put_counted` meets its contract: the number behind its label.
use Rattle.printing.proofs.AppendLaws.{then}
use native.Mathlib.Omega.{arith}
use Rattle.operator_lines.proofs.put_counted.Goals as goal

pub returns : goal.returns
returns c = record {
  appended = then c.put_text-end.ensures c.put_digits_of.ensures.appended;
  upper_bound = omega (arith, c.put_text-end.ensures.ends, c.put_digits_of.ensures.upper_bound);
}
