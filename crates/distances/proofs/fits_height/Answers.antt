-- `distances::fits_height` meets its contract: the range is that of a number with a sign in four columns.
use mathlib.Core.Path.{sym, ap, ◌∙◌}
use Rattle.distances.specs.Distances.{height_fits}
use Rattle.numerals.proofs.Signs.{in_bits}
use Rattle.distances.proofs.DistanceLaws.{in_four}
use Rattle.distances.proofs.fits_height.Goals as goal

pub returns-in-None : goal.returns-in-None
unfolding height_fits
returns-in-None c = sym (ap height_fits c.in-None.is)

pub returns-in-Some : goal.returns-in-Some
unfolding height_fits
returns-in-Some c =
    c.fits_signed.ensures ∙ rw (in_bits c.in-Some.m.0 c.struct_told-1.given.0.1) (in_four c.in-Some.m.0) ∙ sym (ap height_fits c.in-Some.is)
