-- `explained_rows::put_ending` meets its contract: two numbers behind their labels, and the end of the line.
use native.Mathlib.Omega.{arith}
use Rattle.printing.proofs.AppendLaws.{then}
use Rattle.explained_rows.specs.Rows.{line_end}
use Rattle.explained_rows.proofs.put_ending.Goals as goal

pub returns : goal.returns
unfolding line_end
returns c = record {
  appended = then c.put_labelled-twin_end.ensures.appended (then c.put_labelled-clash_end.ensures.appended c.put_text.ensures);
  upper_bound = omega (arith, c.put_labelled-twin_end.ensures.upper_bound, c.put_labelled-clash_end.ensures.upper_bound, c.put_text.ensures.ends);
}
