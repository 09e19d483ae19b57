-- `tenths::fits_tenths` meets its contract: a filled value has its digits in their places and is in range.
use mathlib.Core.Path.{◌≡◌, sym, ◌∙◌}
use Rattle.formats.specs.Formats.{format_fits}
use Rattle.formats.specs.Tenths.{tenths_fit}
use Rattle.numerals.proofs.Signs.{in_bits}
use Rattle.tenths.proofs.TenthsLaws.{fit_not, fit_range}
use Rattle.tenths.proofs.fits_tenths.Goals as goal
use Rattle.tenths.proofs.fits_tenths.Goals.{After-fits_decimal}

-- the digits have their places as the format has them
fitted : (c : After-fits_decimal) → c.fits_decimal.result ≡ format_fits c.args.format c.in-Some.z
fitted c = rw (in_bits c.in-Some.z c.in-Some.known_told-1-own.given.0.1) at c.fits_decimal.ensures

pub returns-then-not-fits_decimal : goal.returns-then-not-fits_decimal
returns-then-not-fits_decimal c = fit_not c.args.format _ c.in-Some.is (sym (fitted (goal.at.returns-then-not-fits_decimal c).After-fits_decimal) ∙ c.if-not-fits_decimal.true)

pub returns-in-None : goal.returns-in-None
unfolding tenths_fit
returns-in-None c = rw c.in-None.is

pub returns-else-not-fits_decimal : goal.returns-else-not-fits_decimal
returns-else-not-fits_decimal c =
    fit_range c.args.format _ c.in-Some.is (sym (fitted (goal.at.returns-else-not-fits_decimal c).After-fits_decimal) ∙ c.if-not-fits_decimal.false)
    (rw (in_bits c.in-Some.z c.in-Some.known_told-1-own.given.0.1) at c.in_range.ensures)
