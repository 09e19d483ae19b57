-- `days::dates::fits_day` meets its contract.
use mathlib.Core.Path.{sym, ap, ◌∙◌}
use Rattle.days.specs.Dates.{day_fits}
use Rattle.days.proofs.dates.fits_day.Goals as goal

pub returns-in-None : goal.returns-in-None
unfolding day_fits
returns-in-None c = sym (ap day_fits c.in-None.is)

pub returns-in-Some : goal.returns-in-Some
unfolding day_fits
returns-in-Some c = c.is_date.ensures ∙ sym (ap day_fits c.in-Some.is)
