-- `joining::mark_after` meets its contract.
use borrow.Author.Tests.{eq-eqb, ne_eqb}
use Rattle.joining.proofs.mark_after.Goals as goal

pub returns-then-k-eq29 : goal.returns-then-k-eq29
returns-then-k-eq29 c = rw (eq-eqb _ _ c.if-k-eq29.true)

pub returns : goal.returns
returns c = rw (ne_eqb _ _ c.if-k-eq29.false)
