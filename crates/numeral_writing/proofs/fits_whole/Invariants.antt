-- `numeral_writing::fits_whole` meets its contract: with the places that are left, what is left of the number fits as the number does.
use Prim.Native.Nat.{◌-◌}
use mathlib.Core.Path.{◌≡◌}
use Rattle.numerals.specs.Numbers.{whole_fits}
use Rattle.numeral_writing.proofs.fits_whole.Given as goal

abbrev pub invariant-loop : goal.invariant-loop
invariant-loop l = whole_fits l.k l.v ≡ whole_fits (l.k - l.counter) l.rest
