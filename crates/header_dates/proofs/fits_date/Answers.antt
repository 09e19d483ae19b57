-- `header_dates::fits_date` meets its contract, by its two cases.
use Rattle.days.specs.Dates.{date_fits}
use Rattle.header_dates.proofs.fits_date.Goals as goal

pub returns-in-None : goal.returns-in-None
unfolding date_fits
returns-in-None c = rw c.in-None.is

pub returns-in-Some : goal.returns-in-Some
unfolding date_fits
returns-in-Some c = rw c.in-Some.is c.is_date.ensures
