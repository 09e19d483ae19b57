-- `vehicles::digits::is_number` meets its contract.
use borrow.Author.Tests.{eq-eqb, ne_eqb}
use Rattle.vehicles.specs.Digits.{is_number}
use Rattle.vehicles.proofs.digits.is_number.Goals as goal

pub returns-then-number-ne-NUMBER_DIGITS : goal.returns-then-number-ne-NUMBER_DIGITS
unfolding is_number
returns-then-number-ne-NUMBER_DIGITS c = rw (ne_eqb _ _ c.if-number-ne-NUMBER_DIGITS.true)

pub returns : goal.returns
unfolding is_number
returns c = rw (eq-eqb _ _ c.if-number-ne-NUMBER_DIGITS.false, c.all_in.ensures)
