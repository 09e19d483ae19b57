-- `days::dates::day_in` meets its contract, by the answer of the reader that it calls.
use Rattle.days.specs.Dates.{day_of}
use Rattle.days.proofs.dates.day_in.Goals as goal

pub returns : goal.returns
unfolding day_of
returns c = rw (c.unwrap_or.ensures, c.read_date.ensures)
