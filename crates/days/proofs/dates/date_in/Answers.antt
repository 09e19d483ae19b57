-- `days::dates::date_in` meets its contract.
use Rattle.days.specs.Dates.{date_in}
use Rattle.numerals.proofs.NumberLaws.{digits_part, part_below}
use native.Mathlib.Omega.{arith}
use Rattle.days.proofs.dates.date_in.Goals as goal

pub number_in-day-requires : goal.number_in-day-requires
number_in-day-requires c = let d = digits_part 2 0 c.args.s.now c.requires.1 in (omega (arith, d.0), d.1)

pub number_in-month-requires : goal.number_in-month-requires
number_in-month-requires c = let d = digits_part 2 2 c.args.s.now c.requires.1 in (omega (arith, d.0), d.1)

pub number_in-year-requires : goal.number_in-year-requires
number_in-year-requires c = digits_part 4 4 c.args.s.now c.requires.1

pub overflow_cast-result : goal.overflow_cast-result
overflow_cast-result c = omega (arith, c.number_in-day.ensures, part_below 2 0 c.args.s.now c.requires.1)

pub overflow_cast-result-2 : goal.overflow_cast-result-2
overflow_cast-result-2 c = omega (arith, c.number_in-month.ensures, part_below 2 2 c.args.s.now c.requires.1)

pub returns : goal.returns
unfolding date_in
returns c = rw (c.number_in-day.ensures, c.number_in-month.ensures, c.number_in-year.ensures)
