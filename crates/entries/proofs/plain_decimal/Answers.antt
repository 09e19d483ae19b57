-- `entries::plain_decimal` meets its contract.
use mathlib.Core.Path.{◌∙◌}
use borrow.Author.Tests.{ne_eqb}
use Rattle.entries.proofs.plain_decimal.Goals as goal

pub returns-then-w-eq4 : goal.returns-then-w-eq4
returns-then-w-eq4 c = c.decimal_entry.ensures ∙ rw c.if-w-eq4.true

pub returns : goal.returns
returns c = c.decimal_entry-2.ensures ∙ rw (ne_eqb _ 4 c.if-w-eq4.false)
