-- `printing::lines::put_broken` meets its contract: two numbers behind their labels, and the end of the line.
use Rattle.printing.specs.Lines.{broken_line}
use Rattle.printing.proofs.AppendLaws.{then}
use native.Mathlib.Omega.{arith}
use Rattle.printing.proofs.lines.put_broken.Goals as goal

pub returns : goal.returns
unfolding broken_line
returns c = record {
  appended = then c.put_labelled-end.ensures.appended (then c.put_labelled-code_end.ensures.appended c.put_text.ensures);
  upper_bound = omega (arith, c.put_labelled-end.ensures.upper_bound, c.put_labelled-code_end.ensures.upper_bound, c.put_text.ensures.ends);
}
