-- `carriage_building::are_defaults` meets its contract.
use borrow.Author.Tests.{eq-eqb, ne_eqb}
use Rattle.carriage.specs.Building.{are_defaults}
use Rattle.carriage_building.proofs.are_defaults.Goals as goal

pub returns-then-typed_code-ne0 : goal.returns-then-typed_code-ne0
unfolding are_defaults
returns-then-typed_code-ne0 c = rw (← c.typed_code.ensures, ne_eqb _ _ c.if-typed_code-ne0.true)

pub returns : goal.returns
unfolding are_defaults
returns c = rw (← c.typed_code.ensures, eq-eqb _ _ c.if-typed_code-ne0.false, ← c.equal.ensures)
