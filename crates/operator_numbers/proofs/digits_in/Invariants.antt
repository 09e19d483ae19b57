-- `operator_numbers::digits_in` meets its contract: with the digits that are left, what is left of the number has the others.
use Prim.Native.Nat.{◌+◌, ◌-◌}
use mathlib.Core.Path.{◌≡◌}
use Rattle.operator_numbers.specs.Frequencies.{digits_in}
use Rattle.operator_numbers.proofs.digits_in.Given as goal

abbrev pub invariant-loop-count : goal.invariant-loop-count
invariant-loop-count l = digits_in 19 l.v ≡ l.count - 1 + digits_in (20 - l.count) l.rest
