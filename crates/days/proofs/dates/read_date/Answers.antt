-- `days::dates::read_date` meets its contract: each return rewrites with the tests on its way.
use mathlib.Core.Path.{◌≡◌, sym, ap, ◌∙◌}
use mathlib.Core.Bool.{true, false}
use lib.ListN.{replicate}
use borrow.Author.Tests.{eq-eqb, ne_eqb, not-true, not-false}
use Rattle.columns.specs.Sets.{is_digit}
use Rattle.columns.specs.Texts.{blank, each}
use Rattle.days.specs.Dates.{date_reads, unread_date, date_of}
use Rattle.columns.proofs.TextLaws.{each-replicate}
use Rattle.numerals.proofs.Letters.{plain-whole}
use Rattle.days.proofs.dates.read_date.Goals as goal
use Rattle.days.proofs.dates.read_date.Goals.{Else-not-all_in}
use Rattle.std.specs.Prelude.{Err}

-- something is there
filled : (c : Else-not-all_in) → blank c.args.s.now ≡ false
filled c = sym c.is_blank.ensures ∙ c.if-is_blank.false

-- eight digits are there
digits_there : (c : Else-not-all_in) → let s = c.args.s.now in each (replicate 8 is_digit) s ≡ true
digits_there c = each-replicate 8 is_digit _ ∙ rw (eq-eqb _ _ c.if-s-ne8.false, ← c.all_in.ensures, not-false c.all_in.result c.if-not-all_in.false-raw)

pub returns-then-is_blank : goal.returns-then-is_blank
unfolding date_of date_reads unread_date
returns-then-is_blank c = rw (← c.is_blank.ensures, c.if-is_blank.true)

pub returns-then-s-ne8 : goal.returns-then-s-ne8
unfolding date_of date_reads unread_date
returns-then-s-ne8 c =
    rw (← c.is_blank.ensures, c.if-is_blank.false, each-replicate 8 is_digit, ne_eqb _ _ c.if-s-ne8.true) (ap Err (c.unread_of.ensures ∙ plain-whole _))

pub returns-then-not-all_in : goal.returns-then-not-all_in
unfolding date_of date_reads unread_date
returns-then-not-all_in c =
    rw (← c.is_blank.ensures, c.if-is_blank.false, each-replicate 8 is_digit, eq-eqb _ _ c.if-s-ne8.false, ← c.all_in.ensures, not-true c.all_in.result c.if-not-all_in.true-raw) (ap Err (c.unread_of-then-not-all_in.ensures ∙ plain-whole _))

pub date_in-d-requires : goal.date_in-d-requires
date_in-d-requires c = (c.if-s-ne8.false, sym c.all_in.ensures ∙ c.if-not-all_in.false)

pub returns-then-is_date : goal.returns-then-is_date
unfolding date_of date_reads unread_date
returns-then-is_date c = rw ((filled (goal.at.returns-then-is_date c).Else-not-all_in), (digits_there (goal.at.returns-then-is_date c).Else-not-all_in), ← c.date_in-d.ensures, ← c.is_date.ensures, c.if-is_date.true)

pub returns-else-is_date : goal.returns-else-is_date
unfolding date_of date_reads unread_date
returns-else-is_date c = rw ((filled (goal.at.returns-else-is_date c).Else-not-all_in), (digits_there (goal.at.returns-else-is_date c).Else-not-all_in), ← c.date_in-d.ensures, ← c.is_date.ensures, c.if-is_date.false)
