-- `report_rows::put_rows` meets its contract: the lines of so many rows stand, each behind the one before it.
use mathlib.Core.Path.{◌≡◌}
use Prim.Native.Nat.{◌+◌, ◌*◌, ◌≤◌}
use lib.ListN.{length}
use Rattle.forms.specs.Counting.{rows}
use Rattle.report_rows.specs.Rows.{row_line}
use Rattle.printing.specs.Promises.{Appended}
use Rattle.report_rows.proofs.put_rows.Given as goal

abbrev pub invariant-loop-i : goal.invariant-loop-i
invariant-loop-i l = (length l.out ≡ length l.initial.out) × (l.end ≤ l.start + 40 * l.i) × Appended l.initial.out l.start (rows (row_line l.sheet) l.i) l.out l.end
