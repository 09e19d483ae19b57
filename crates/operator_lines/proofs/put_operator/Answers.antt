-- `operator_lines::put_operator` meets its contract: the counts, the lowest and the highest frequency, and the end of the line.
use Rattle.printing.proofs.AppendLaws.{then}
use Rattle.operator_lines.specs.Lines.{operator_line}
use native.Mathlib.Omega.{arith}
use Rattle.operator_lines.proofs.put_operator.Goals as goal

pub returns : goal.returns
unfolding operator_line
returns c = record {
  appended = then c.put_counts-counts_end.ensures.appended (then c.put_extreme-lowest_end.ensures.appended (then c.put_extreme-highest_end.ensures.appended c.put_text.ensures));
  upper_bound = omega (arith, c.put_counts-counts_end.ensures.upper_bound, c.put_extreme-lowest_end.ensures.upper_bound, c.put_extreme-highest_end.ensures.upper_bound, c.put_text.ensures.ends);
}
