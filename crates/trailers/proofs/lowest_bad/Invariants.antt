-- `trailers::lowest_bad` meets its contract: none of the rows before was found bad.
use mathlib.Core.Path.{◌≡◌}
use Prim.Native.Nat.{◌≤◌}
use Rattle.forms.specs.Counting.{first}
use Rattle.forms.specs.OwnForm.{bad}
use Rattle.trailers.proofs.lowest_bad.Given as goal

abbrev pub invariant-loop-i : goal.invariant-loop-i
invariant-loop-i l = (l.i ≤ l.n) × (first (bad l.sheet) l.i ≡ 0)
