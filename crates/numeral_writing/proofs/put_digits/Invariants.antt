-- `numeral_writing::put_digits` meets its contract. The invariant: what is left to write, in front of what stands, is what was to be written.
use Prim.Native.Nat.{◌≤◌, ◌^◌, ◌+◌, ◌/◌}
use mathlib.Core.Path.{◌≡◌}
use lib.ListN.{length, take, drop}
use Rattle.numerals.specs.Numbers.{spell_digits}
use Rattle.numeral_writing.proofs.put_digits.Given as goal

abbrev pub invariant-loop-left : goal.invariant-loop-left
invariant-loop-left l = (length l.s ≡ length l.initial.s) × (l.left ≤ l.count) × (take l.at l.s ≡ take l.at l.initial.s)
    × (spell_digits l.count l.v (drop (l.at + l.count) l.initial.s) ≡ spell_digits l.left l.rest (drop (l.at + l.left) l.s))
    × (l.v / 10 ^ l.count ≡ l.rest / 10 ^ l.left)

abbrev pub decreases-loop-left : goal.decreases-loop-left
decreases-loop-left l = l.left
