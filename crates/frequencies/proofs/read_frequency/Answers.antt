-- `frequencies::read_frequency` meets its contract, by the answer of the reader that it calls.
use native.Mathlib.Omega.{arith}
use Rattle.frequencies.specs.Frequencies.{frequency_of}
use Rattle.numerals.proofs.Signs.{in_bits}
use Rattle.frequencies.proofs.read_frequency.Goals as goal

pub returns : goal.returns
unfolding frequency_of
returns c =
    rw (c.magnitude.ensures, in_bits c.in_ok-v.v (omega arith), c.unit_of.ensures, c.byte.ensures, ← c.read_decimal.ensures, ← c.unwrap_or.ensures, c.in_ok-v.was)

pub returns-in_err-v : goal.returns-in_err-v
unfolding frequency_of
returns-in_err-v c = rw (c.from_residual.ensures, ← c.read_decimal.ensures, ← c.unwrap_or.ensures, c.in_err-v.was)
