-- `numerals::number_of` meets its contract: what is left to read, onto the value so far, is what was to be read, and there is room for it.
use Prim.Native.Nat.{◌<◌, ◌^◌}
use mathlib.Core.Path.{◌≡◌}
use lib.ListN.{drop}
use Rattle.numerals.specs.Numbers.{number_from, number}
use Rattle.numerals.proofs.number_of.Given as goal

abbrev pub invariant-loop-c : goal.invariant-loop-c
invariant-loop-c l = (l.value < 10 ^ l.c-index) × (number l.p ≡ number_from l.value (drop l.c-index l.p))
