-- `desk_operators::put_row` meets its contract: the counts, and the lowest and the highest frequency.
use Rattle.printing.proofs.AppendLaws.{then}
use Rattle.desk_operators.specs.Rows.{spell_row}
use native.Mathlib.Omega.{arith}
use Rattle.desk_operators.proofs.put_row.Goals as goal

pub returns : goal.returns
unfolding spell_row
returns c = record {
  appended = then c.put_head-head_end.ensures.appended (then (rw c.hundredths_bytes-low.ensures at c.put_text-low_end.ensures) (rw c.hundredths_bytes-high.ensures at c.put_text.ensures));
  upper_bound = omega (arith, c.put_head-head_end.ensures.upper_bound, c.put_text-low_end.ensures.ends, c.put_text.ensures.ends);
}
