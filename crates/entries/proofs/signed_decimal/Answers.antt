-- `entries::signed_decimal` meets its contract.
use mathlib.Core.Path.{◌∙◌}
use borrow.Author.Tests.{ne_eqb}
use Rattle.entries.proofs.signed_decimal.Goals as goal

pub returns-then-w-eq5 : goal.returns-then-w-eq5
returns-then-w-eq5 c = c.decimal_entry.ensures ∙ rw c.if-w-eq5.true

pub returns : goal.returns
returns c = c.decimal_entry-2.ensures ∙ rw (ne_eqb _ 5 c.if-w-eq5.false)
