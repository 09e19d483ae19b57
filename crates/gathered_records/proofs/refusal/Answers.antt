-- `gathered_records::refusal` meets its contract.
use borrow.Author.Tests.{eq-eqb, ne_eqb}
use Rattle.gathered_records.specs.Calls.{long_outcome}
use Rattle.gathered_records.proofs.refusal.Goals as goal

pub returns-then-gathered-ne29 : goal.returns-then-gathered-ne29
unfolding long_outcome
returns-then-gathered-ne29 c = rw (ne_eqb _ _ c.if-gathered-ne29.true)

pub returns-then-gathered-ne1 : goal.returns-then-gathered-ne1
unfolding long_outcome
returns-then-gathered-ne1 c = rw (eq-eqb _ _ c.if-gathered-ne29.false, ne_eqb _ _ c.if-gathered-ne1.true)

pub returns-then-gathered-ne10 : goal.returns-then-gathered-ne10
unfolding long_outcome
returns-then-gathered-ne10 c = rw (eq-eqb _ _ c.if-gathered-ne29.false, eq-eqb _ _ c.if-gathered-ne1.false, ne_eqb _ _ c.if-gathered-ne10.true)

pub returns : goal.returns
unfolding long_outcome
returns c = rw (eq-eqb _ _ c.if-gathered-ne29.false, eq-eqb _ _ c.if-gathered-ne1.false, eq-eqb _ _ c.if-gathered-ne10.false)
