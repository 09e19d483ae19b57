-- `reasons::put_columns` meets its contract: one column, or the first and the last.
use native.Mathlib.Omega.{arith}
use borrow.Author.Tests.{eq-eqb, ne_eqb}
use Rattle.printing.proofs.AppendLaws.{then}
use Rattle.reasons.specs.Reasons.{columns_text}
use Rattle.reasons.proofs.put_columns.Goals as goal

pub returns-then-len-eq1 : goal.returns-then-len-eq1
unfolding columns_text
returns-then-len-eq1 c = record {
  appended = rw (eq-eqb _ _ c.if-len-eq1.true) c.put_labelled.ensures.appended;
  upper_bound = omega (arith, c.put_labelled.ensures.upper_bound);
}

pub returns : goal.returns
unfolding columns_text
returns c = record {
  appended = rw (ne_eqb _ _ c.if-len-eq1.false) (then c.put_labelled-end.ensures.appended c.put_labelled-2.ensures.appended);
  upper_bound = omega (arith, c.put_labelled-end.ensures.upper_bound, c.put_labelled-2.ensures.upper_bound);
}
