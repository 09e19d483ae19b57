-- `header_dates::is_dated` meets its contract, by the answer of the reader that it calls.
use Rattle.days.specs.Dates.{date_good}
use Rattle.header_dates.proofs.is_dated.Goals as goal

pub returns : goal.returns
unfolding date_good
returns c = rw (c.is_some.ensures, c.unwrap_or.ensures, c.read_date.ensures)
