-- `columns::texts::equal` meets its contract: what was passed from the back is equal.
use Prim.Native.Nat.{◌≤◌}
use mathlib.Core.Path.{◌≡◌}
use lib.ListN.{length, take}
use Rattle.columns.specs.Texts.{same}
use Rattle.columns.proofs.texts.equal.Given as goal

abbrev pub invariant-loop-i : goal.invariant-loop-i
invariant-loop-i l = (l.i ≤ length l.a) × (same l.a l.b ≡ same (take l.i l.a) (take l.i l.b))
