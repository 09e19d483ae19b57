-- `numerals::digits` meets its contract. The invariant: what is left to read, onto the value so far, is what was to be read, and there is room for it.
use Prim.Native.Nat.{◌≤◌, ◌-◌, ◌+◌, ◌<◌, ◌^◌}
use mathlib.Core.Path.{◌≡◌}
use lib.ListN.{length, drop}
use Rattle.numerals.specs.Numbers.{leading, number_from}
use Rattle.numerals.proofs.digits.Given as goal

abbrev pub invariant-loop-count : goal.invariant-loop-count
invariant-loop-count l = (l.value < 10 ^ (18 - (l.most - l.count)))
    × (l.count + length (leading (l.most - l.count) (drop l.count l.t)) ≡ length (leading l.most l.t))
    × (number_from l.value (leading (l.most - l.count) (drop l.count l.t)) ≡ number_from l.v (leading l.most l.t))
    × (l.count ≤ length l.t)
