-- `basics::outcomes::judged` meets its contract.
use borrow.Author.Tests.{eq-eqb, ne_eqb}
use Rattle.basics.specs.Outcomes.{judged, first_refusal}
use Rattle.basics.proofs.outcomes.judged.Goals as goal

pub returns-then-code-eq0 : goal.returns-then-code-eq0
unfolding judged first_refusal
returns-then-code-eq0 c = rw (eq-eqb _ _ c.if-code-eq0.true)

pub returns : goal.returns
unfolding judged first_refusal
returns c = rw (ne_eqb _ _ c.if-code-eq0.false)
