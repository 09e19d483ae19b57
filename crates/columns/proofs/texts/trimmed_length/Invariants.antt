-- `columns::texts::trimmed_length` meets its contract: what was passed from the back is spaces.
use Prim.Native.Nat.{◌≤◌}
use mathlib.Core.Path.{◌≡◌}
use lib.ListN.{length, take}
use Rattle.columns.specs.Texts.{trimmed}
use Rattle.columns.proofs.texts.trimmed_length.Given as goal

abbrev pub invariant-loop-i : goal.invariant-loop-i
invariant-loop-i l = (l.i ≤ length l.s) × (trimmed l.s ≡ trimmed (take l.i l.s))
