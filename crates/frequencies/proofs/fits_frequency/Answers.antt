-- `frequencies::fits_frequency` meets its contract: a filled amount has its digits in their places and is above zero.
use mathlib.Core.Path.{sym, ◌∙◌}
use Rattle.frequencies.specs.Frequencies.{frequency_fits}
use Rattle.frequencies.proofs.FrequencyLaws.{amount-not, amount_above}
use Rattle.frequencies.proofs.fits_frequency.Goals as goal

pub returns-then-not-fits_whole : goal.returns-then-not-fits_whole
returns-then-not-fits_whole c = amount-not _ c.in-Some.is (sym c.fits_whole.ensures ∙ c.if-not-fits_whole.true)

pub returns-in-None : goal.returns-in-None
unfolding frequency_fits
returns-in-None c = rw c.in-None.is

pub returns-else-not-fits_whole : goal.returns-else-not-fits_whole
returns-else-not-fits_whole c = amount_above _ c.in-Some.is (sym c.fits_whole.ensures ∙ c.if-not-fits_whole.false)
