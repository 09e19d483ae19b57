-- `filling::copy_field` meets its contract: so many bytes are copied, and none of them is a mark.
use mathlib.Core.Path.{◌≡◌}
use Prim.Native.Nat.{◌≤◌}
use lib.ListN.{length, take}
use Rattle.semicolons.specs.Marks.{Passed}
use Rattle.filling.proofs.copy_field.Given as goal

abbrev pub invariant-loop-i : goal.invariant-loop-i
invariant-loop-i l = Passed l.text l.i × (length l.columns ≡ length l.initial.columns) × (l.i ≤ length l.columns) × (take l.i l.columns ≡ take l.i l.text)
