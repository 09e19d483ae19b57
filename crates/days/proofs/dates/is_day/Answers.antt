-- `days::dates::is_day` meets its contract, by the answer of the reader that it calls.
use Rattle.days.specs.Dates.{day_good}
use Rattle.days.proofs.dates.is_day.Goals as goal

pub returns : goal.returns
unfolding day_good
returns c = rw (c.is_ok.ensures.value, c.read_date.ensures)
