-- `trailers::bad_rows` meets its contract, row by row.
use mathlib.Core.Path.{◌≡◌}
use Prim.Native.Nat.{◌≤◌}
use Rattle.forms.specs.Counting.{count}
use Rattle.forms.specs.OwnForm.{bad}
use Rattle.trailers.proofs.bad_rows.Given as goal

abbrev pub invariant-loop-i : goal.invariant-loop-i
invariant-loop-i l = (l.i ≤ l.n) × (l.found ≤ l.i) × (l.found ≡ count (bad l.sheet) l.i)
