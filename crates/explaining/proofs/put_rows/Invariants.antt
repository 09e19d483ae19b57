-- `explaining::put_rows` meets its contract: the lines of so many rows stand, each behind the one before it.
use mathlib.Core.Path.{◌≡◌}
use Prim.Native.Nat.{◌+◌, ◌*◌, ◌≤◌}
use lib.ListN.{length}
use Rattle.forms.specs.Counting.{rows}
use Rattle.explained_rows.specs.Rows.{row_explained}
use Rattle.printing.specs.Promises.{Appended}
use Rattle.explaining.proofs.put_rows.Given as goal

abbrev pub invariant-loop-i : goal.invariant-loop-i
invariant-loop-i l = (length l.out ≡ length l.initial.out) × (l.end ≤ l.start + 138 * l.i) × Appended l.initial.out l.start (rows (row_explained l.file l.sheet) l.i) l.out l.end
