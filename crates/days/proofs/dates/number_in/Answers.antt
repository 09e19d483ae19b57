-- `days::dates::number_in` meets its contract.
use Rattle.numerals.proofs.NumberLaws.{digits_below}
use native.Mathlib.Omega.{arith}
use Rattle.days.proofs.dates.number_in.Goals as goal

pub number_of-requires : goal.number_of-requires
number_of-requires c = (omega (arith, c.requires.0), c.requires.1)

pub overflow_cast-result : goal.overflow_cast-result
overflow_cast-result c =
    omega (arith, c.number_of.ensures, digits_below 4 c.args.p.now c.requires.1 c.requires.0)

pub returns : goal.returns
returns c = c.number_of.ensures
