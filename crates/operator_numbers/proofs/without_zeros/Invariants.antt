-- `operator_numbers::without_zeros` meets its contract: with the places that are left, what is left of the fraction is shortened as the fraction is.
use Prim.Native.Nat.{◌-◌}
use mathlib.Core.Path.{◌≡◌}
use Rattle.operator_numbers.specs.Frequencies.{shortened}
use Rattle.operator_numbers.proofs.without_zeros.Given as goal

abbrev pub invariant-loop-places : goal.invariant-loop-places
invariant-loop-places l = shortened 7 l.fraction ≡ shortened (l.places - 2) l.digits
