-- `distances::fits_ground` meets its contract: the sign and the magnitude are the number's own.
use mathlib.Core.Path.{◌≡◌, ◌∙◌}
use Rattle.numerals.specs.Numbers.{is_negative}
use Rattle.distances.specs.Distances.{ground_fits}
use Rattle.numerals.proofs.Signs.{in_bits}
use Rattle.distances.proofs.fits_ground.Goals as goal
use Rattle.distances.proofs.fits_ground.Goals.{After-is_negative}

-- the sign was told
told : (c : After-is_negative) → c.is_negative.result ≡ is_negative c.args.v.0
told c = rw (in_bits c.args.v.0 c.struct_told-1.given.0.1) at c.is_negative.ensures

pub returns-then-is_negative : goal.returns-then-is_negative
unfolding ground_fits
returns-then-is_negative c = rw (← (told (goal.at.returns-then-is_negative c).After-is_negative), c.if-is_negative.true)

pub returns : goal.returns
unfolding ground_fits
returns c =
    rw (← (told (goal.at.returns c).After-is_negative), c.if-is_negative.false) (c.fits_whole.ensures ∙ rw (c.magnitude.ensures, in_bits c.args.v.0 c.struct_told-1.given.0.1))
