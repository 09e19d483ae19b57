-- `distances::is_height` meets its contract, case by case.
use native.Mathlib.Omega.{arith}
use Rattle.distances.specs.Distances.{height_good}
use Rattle.numerals.proofs.Signs.{in_bits}
use Rattle.distances.proofs.DistanceLaws.{in_four}
use Rattle.distances.proofs.is_height.Goals as goal

pub returns-in-Err : goal.returns-in-Err
unfolding height_good
returns-in-Err c = rw (← c.read_signed.ensures, c.in-Err.is)

pub returns-in-Ok-None : goal.returns-in-Ok-None
unfolding height_good
returns-in-Ok-None c = rw (← c.read_signed.ensures, c.in-Ok-None.is, c.in-Ok-None.field-0-is)

pub returns-in-Ok-Some : goal.returns-in-Ok-Some
unfolding height_good
returns-in-Ok-Some c =
    rw (c.fits_signed.ensures, in_bits c.in-Ok-Some.z (omega arith), ← c.read_signed.ensures, c.in-Ok-Some.is, c.in-Ok-Some.field-0-is) (in_four c.in-Ok-Some.z)
