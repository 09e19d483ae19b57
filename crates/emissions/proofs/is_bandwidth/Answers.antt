-- `emissions::is_bandwidth` meets its contract: each return rewrites with the tests on its way.
use mathlib.Core.Path.{ap}
use mathlib.Core.Bool.{not}
use borrow.Author.Tests.{eq-eqb, ne_eqb}
use Rattle.emissions.specs.Emission.{bandwidth_good}
use Rattle.emissions.proofs.is_bandwidth.Goals as goal

pub returns-then-s-ne4 : goal.returns-then-s-ne4
unfolding bandwidth_good
returns-then-s-ne4 c = rw (ne_eqb _ _ c.if-s-ne4.true)

pub returns-then-digits-ne3 : goal.returns-then-digits-ne3
unfolding bandwidth_good
returns-then-digits-ne3 c = rw (eq-eqb _ _ c.if-s-ne4.false, ← c.digits.ensures, ne_eqb c.digits.result 3 c.if-digits-ne3.true)

pub returns-then-letters-ne1 : goal.returns-then-letters-ne1
unfolding bandwidth_good
returns-then-letters-ne1 c =
    rw (eq-eqb _ _ c.if-s-ne4.false, ← c.digits.ensures, eq-eqb c.digits.result 3 c.if-digits-ne3.false, ← c.letters.ensures, ne_eqb c.letters.result 1 c.if-letters-ne1.true)

pub returns : goal.returns
unfolding bandwidth_good
returns c =
    rw (eq-eqb _ _ c.if-s-ne4.false, ← c.digits.ensures, eq-eqb c.digits.result 3 c.if-digits-ne3.false, ← c.letters.ensures, eq-eqb c.letters.result 1 c.if-letters-ne1.false) (ap not c.is_late.ensures)
