-- `printing::lines::put_bad_row` meets its contract: four numbers behind their labels, and the end of the line.
use Rattle.printing.specs.Lines.{station_line}
use Rattle.printing.proofs.AppendLaws.{then}
use native.Mathlib.Omega.{arith}
use Rattle.printing.proofs.lines.put_bad_row.Goals as goal

pub returns : goal.returns
unfolding station_line
returns c = record {
  appended = then c.put_labelled-number_end.ensures.appended (then c.put_labelled-code_end.ensures.appended (then c.put_labelled-twin_end.ensures.appended (then c.put_labelled-clash_end.ensures.appended c.put_text.ensures)));
  upper_bound = omega (arith, c.put_labelled-number_end.ensures.upper_bound, c.put_labelled-code_end.ensures.upper_bound, c.put_labelled-twin_end.ensures.upper_bound, c.put_labelled-clash_end.ensures.upper_bound, c.put_text.ensures.ends);
}
