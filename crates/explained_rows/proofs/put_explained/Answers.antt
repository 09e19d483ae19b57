-- `explained_rows::put_explained` meets its contract: number, code, reason and the line's end, one behind the other.
use native.Mathlib.Omega.{arith}
use Rattle.printing.proofs.AppendLaws.{then}
use Rattle.explained_rows.specs.Rows.{explained_line}
use Rattle.explained_rows.proofs.put_explained.Goals as goal

pub returns : goal.returns
unfolding explained_line
returns c = record {
  appended = then c.put_labelled-number_end.ensures.appended (then c.put_labelled-code_end.ensures.appended (then c.put_reason-reason_end.ensures.appended c.put_ending.ensures.appended));
  upper_bound = omega (arith, c.put_labelled-number_end.ensures.upper_bound, c.put_labelled-code_end.ensures.upper_bound, c.put_reason-reason_end.ensures.upper_bound, c.put_ending.ensures.upper_bound);
}
