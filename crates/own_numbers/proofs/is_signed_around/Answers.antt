-- `own_numbers::is_signed_around` meets its contract: each return rewrites with the tests on its way.
use Rattle.own_numbers.specs.OwnNumbers.{digits_around}
use Rattle.columns.proofs.TextLaws.{from_on}
use Rattle.columns.specs.Texts.{same}
use lib.ListN.{drop}
use mathlib.Core.Bool.{not}
use mathlib.Core.Path.{◌≡◌, ap, ◌∙◌}
use borrow.Author.Tests.{eq-eqb, ne_eqb, not-true, not-false}
use Rattle.own_numbers.specs.OwnNumbers.{signed_around}
use Rattle.own_numbers.proofs.is_signed_around.Goals as goal
use Rattle.own_numbers.proofs.is_signed_around.Goals.{After-is_around}

-- what was asked of the columns behind the sign
around_tail : (c : After-is_around) → c.is_around.result ≡ digits_around 46 c.args.a (drop 1 c.args.s.now)
around_tail c = c.is_around.ensures ∙ ap (digits_around 46 c.args.a) (from_on c.args.s.now 1)

pub returns-then-not-is_around : goal.returns-then-not-is_around
unfolding signed_around
returns-then-not-is_around c = rw (← (around_tail (goal.at.returns-then-not-is_around c).After-is_around), not-true c.is_around.result c.if-not-is_around.true-raw)

pub returns-then-sign-eq32 : goal.returns-then-sign-eq32
unfolding signed_around
returns-then-sign-eq32 c = rw (← (around_tail (goal.at.returns-then-sign-eq32 c).After-is_around), not-false c.is_around.result c.if-not-is_around.false-raw, eq-eqb _ _ c.if-sign-eq32.true)

pub returns-then-sign-ne45 : goal.returns-then-sign-ne45
unfolding signed_around
returns-then-sign-ne45 c = rw (← (around_tail (goal.at.returns-then-sign-ne45 c).After-is_around), not-false c.is_around.result c.if-not-is_around.false-raw, ne_eqb _ _ c.if-sign-eq32.false, ne_eqb _ _ c.if-sign-ne45.true)

pub returns : goal.returns
unfolding signed_around
returns c =
    rw (← (around_tail (goal.at.returns c).After-is_around), not-false c.is_around.result c.if-not-is_around.false-raw, ne_eqb _ _ c.if-sign-eq32.false, eq-eqb _ _ c.if-sign-ne45.false) (ap not (c.equal.ensures ∙ ap (same c.args.none.now) (from_on c.args.s.now 1)))
