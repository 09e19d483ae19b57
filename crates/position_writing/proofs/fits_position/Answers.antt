-- `position_writing::fits_position` meets its contract: both magnitudes are told.
use mathlib.Core.Path.{◌≡◌}
use lib.IntN.{nat_abs}
use borrow.Author.Tests.{le-leb, lt-leb}
use Rattle.positions.specs.Positions.{position_fits}
use Rattle.numerals.proofs.Signs.{in_bits}
use Rattle.position_writing.proofs.fits_position.Goals as goal
use Rattle.position_writing.proofs.fits_position.Goals.{After-magnitude}

-- the magnitude of the longitude
east : (c : After-magnitude) → c.magnitude.result ≡ nat_abs c.args.v.east
east c = rw (in_bits c.args.v.east c.struct_told-1.given.0.1) at c.magnitude.ensures

pub returns-then-magnitude-le648000 : goal.returns-then-magnitude-le648000
unfolding position_fits
returns-then-magnitude-le648000 c =
    let v = c.args.v in
    rw (← (east (goal.at.returns-then-magnitude-le648000 c).After-magnitude), le-leb _ _ c.if-magnitude-le648000.true, c.magnitude-then-magnitude-le648000.ensures, in_bits v.north c.struct_told-then-magnitude-le648000-1.given.1.0.1)

pub returns-else-magnitude-le648000 : goal.returns-else-magnitude-le648000
unfolding position_fits
returns-else-magnitude-le648000 c = rw (← (east (goal.at.returns-else-magnitude-le648000 c).After-magnitude), lt-leb _ _ c.if-magnitude-le648000.false)
