-- `frequencies::unit_of` meets its contract: each return rewrites with the tests on its way.
use borrow.Author.Tests.{eq-eqb, ne_eqb}
use Rattle.frequencies.specs.Frequencies.{unit_of}
use Rattle.frequencies.proofs.unit_of.Goals as goal

pub returns-then-c-eq107 : goal.returns-then-c-eq107
unfolding unit_of
returns-then-c-eq107 c = rw (eq-eqb _ _ c.if-c-eq107.true)

pub returns-then-c-eq77 : goal.returns-then-c-eq77
unfolding unit_of
returns-then-c-eq77 c = rw (ne_eqb _ _ c.if-c-eq107.false, eq-eqb _ _ c.if-c-eq77.true)

pub returns : goal.returns
unfolding unit_of
returns c = rw (ne_eqb _ _ c.if-c-eq107.false, ne_eqb _ _ c.if-c-eq77.false)
