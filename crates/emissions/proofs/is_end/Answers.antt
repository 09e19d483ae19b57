-- `emissions::is_end` meets its contract: each return rewrites with the tests on its way, and a space is no detail.
use mathlib.Core.Path.{sym}
use mathlib.Core.Bool.{or-false}
use borrow.Author.Tests.{eq-eqb, ne_eqb, not-true, not-false}
use Rattle.columns.specs.Sets.{among}
use Rattle.emissions.specs.Emission.{detail_good}
use Rattle.emissions.proofs.is_end.Goals as goal

pub returns-then-x-eq32 : goal.returns-then-x-eq32
unfolding detail_good among
returns-then-x-eq32 c = rw c.if-x-eq32.true (sym (or-false _))

pub returns-then-not-is_detail : goal.returns-then-not-is_detail
unfolding detail_good
returns-then-not-is_detail c = rw (ne_eqb _ _ c.if-x-eq32.false, ← c.is_detail.ensures, not-true c.is_detail.result c.if-not-is_detail.true-raw)

pub returns-then-y-eq32 : goal.returns-then-y-eq32
unfolding detail_good
returns-then-y-eq32 c =
    rw (ne_eqb _ _ c.if-x-eq32.false, ← c.is_detail.ensures, not-false c.is_detail.result c.if-not-is_detail.false-raw, eq-eqb _ _ c.if-y-eq32.true)

pub returns : goal.returns
unfolding detail_good
returns c =
    rw (ne_eqb _ _ c.if-x-eq32.false, ← c.is_detail.ensures, not-false c.is_detail.result c.if-not-is_detail.false-raw, ne_eqb _ _ c.if-y-eq32.false) c.is_multiplex.ensures
