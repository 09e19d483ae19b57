-- `operator_lines::put_counts` meets its contract: the code, and two numbers behind their labels.
use Rattle.printing.proofs.AppendLaws.{then}
use Rattle.operator_lines.specs.Lines.{counts_text}
use native.Mathlib.Omega.{arith}
use Rattle.operator_lines.proofs.put_counts.Goals as goal

pub returns : goal.returns
unfolding counts_text
returns c = record {
  appended = then c.put_text-label_end.ensures (then c.put_text-code_end.ensures (then c.put_counted-stations_end.ensures.appended c.put_counted.ensures.appended));
  upper_bound = omega (arith, c.put_text-label_end.ensures.ends, c.put_text-code_end.ensures.ends, c.put_counted-stations_end.ensures.upper_bound, c.put_counted.ensures.upper_bound, c.requires.0);
}
