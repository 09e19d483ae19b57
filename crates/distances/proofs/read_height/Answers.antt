-- `distances::read_height` meets its contract, by the answer of the reader that it calls.
use native.Mathlib.Omega.{arith}
use Rattle.distances.specs.Distances.{height_of}
use Rattle.numerals.proofs.Signs.{in_bits}
use Rattle.distances.proofs.read_height.Goals as goal

pub returns : goal.returns
unfolding height_of
returns c = rw (in_bits c.in_ok-z.z (omega arith), ← c.read_signed.ensures, ← c.unwrap_or.ensures, c.in_ok-z.was)

pub returns-in_err-z : goal.returns-in_err-z
unfolding height_of
returns-in_err-z c = rw (c.from_residual.ensures, ← c.read_signed.ensures, ← c.unwrap_or.ensures, c.in_err-z.was)
