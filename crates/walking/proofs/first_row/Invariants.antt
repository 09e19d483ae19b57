-- `walking::first_row` meets its contract: the rows that were passed are kept.
use Prim.Native.Nat.{◌-◌}
use mathlib.Core.Path.{◌≡◌}
use lib.ListN.{length, drop}
use Rattle.walking.specs.Walks.{first_row}
use Rattle.walking.proofs.first_row.Given as goal

abbrev pub invariant-loop-j : goal.invariant-loop-j
invariant-loop-j l = first_row l.entries l.rec l.low l.high l.rows ≡ first_row l.entries l.rec l.low l.high (drop l.j l.rows)
