-- `vehicles::digits::digit_sum` meets its contract: what was added, and what is still to come, are all.
use Prim.Native.Nat.{◌+◌, ◌*◌, ◌%◌, ◌≤◌}
use mathlib.Core.Path.{◌≡◌}
use mathlib.Core.Bool.{true}
use lib.ListN.{length}
use Rattle.vehicles.specs.Digits.{sum_from, digit_sum, digits_of}
use Rattle.vehicles.proofs.digits.digit_sum.Given as goal

abbrev pub invariant-loop-pair : goal.invariant-loop-pair
invariant-loop-pair l =
    (l.pair-iterator.size ≡ 2) × (length l.pair-iterator.rest.now % 2 ≡ 0) × (l.sum + 300 * length l.pair-iterator.rest.now ≤ 3600)
    × (l.sum + sum_from true (digits_of l.pair-iterator.rest.now) ≡ digit_sum (digits_of l.number))
