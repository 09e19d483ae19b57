-- `vehicle_names::holds_number` meets its contract.
use borrow.Author.Tests.{not-true, not-false}
use Rattle.vehicles.specs.Names.{holds_number}
use Rattle.vehicles.proofs.NameLaws.{other_length}
use Rattle.vehicle_names.proofs.holds_number.Goals as goal

pub returns-then-name-ne20 : goal.returns-then-name-ne20
returns-then-name-ne20 c = other_length _ c.if-name-ne20.true

pub returns-then-not-equal : goal.returns-then-not-equal
unfolding holds_number
returns-then-not-equal c = rw (← c.name_of-own.ensures, ← c.equal.ensures, not-true c.equal.result c.if-not-equal.true-raw)

pub returns-then-not-is_number : goal.returns-then-not-is_number
unfolding holds_number
returns-then-not-is_number c =
    rw (← c.name_of-own.ensures, ← c.equal.ensures, not-false c.equal.result c.if-not-equal.false-raw, ← c.is_number.ensures, not-true c.is_number.result c.if-not-is_number.true-raw)

pub returns : goal.returns
unfolding holds_number
returns c =
    rw (← c.name_of-own.ensures, ← c.equal.ensures, not-false c.equal.result c.if-not-equal.false-raw, ← c.is_number.ensures, not-false c.is_number.result c.if-not-is_number.false-raw, ← c.is_last_right.ensures)
