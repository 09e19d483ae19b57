-- `days::dates::is_date` meets its contract.
use borrow.Author.Tests.{not-true, not-false}
use Rattle.days.specs.Dates.{date_rule}
use Rattle.days.proofs.dates.is_date.Goals as goal

pub returns-then-not-is_within : goal.returns-then-not-is_within
unfolding date_rule
returns-then-not-is_within c = rw (← c.is_within.ensures, not-true c.is_within.result c.if-not-is_within.true-raw)

pub returns-then-not-is_within-2 : goal.returns-then-not-is_within-2
unfolding date_rule
returns-then-not-is_within-2 c =
    rw (
      ← c.is_within.ensures,
      not-false c.is_within.result c.if-not-is_within.false-raw,
      ← c.is_within-2.ensures,
      not-true c.is_within-2.result c.if-not-is_within-2.true-raw,
    )

pub returns : goal.returns
unfolding date_rule
returns c =
    rw (
      ← c.is_within.ensures,
      not-false c.is_within.result c.if-not-is_within.false-raw,
      ← c.is_within-2.ensures,
      not-false c.is_within-2.result c.if-not-is_within-2.false-raw,
      ← c.days_in-last.ensures,
    )
    c.is_within-3.ensures
