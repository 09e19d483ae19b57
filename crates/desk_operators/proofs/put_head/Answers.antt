-- `desk_operators::put_head` meets its contract: the code, and two counts.
use Rattle.printing.proofs.AppendLaws.{then}
use Rattle.desk_operators.specs.Rows.{spell_head}
use native.Mathlib.Omega.{arith}
use Rattle.desk_operators.proofs.put_head.Goals as goal

pub returns : goal.returns
unfolding spell_head
returns c = record {
  appended = then c.put_text-code_end.ensures (then (rw c.count_bytes-first.ensures at c.put_text-stations_end.ensures) (rw c.count_bytes-second.ensures at c.put_text.ensures));
  upper_bound = omega (arith, c.put_text-code_end.ensures.ends, c.put_text-stations_end.ensures.ends, c.put_text.ensures.ends);
}
