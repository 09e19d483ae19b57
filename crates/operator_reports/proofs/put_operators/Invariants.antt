-- `operator_reports::put_operators` meets its contract: the lines of so many rows stand, each behind the one before it.
use mathlib.Core.Path.{◌≡◌}
use Prim.Native.Nat.{◌*◌, ◌≤◌}
use lib.ListN.{length}
use Rattle.forms.specs.Counting.{rows}
use Rattle.printing.specs.Promises.{Appended}
use Rattle.operator_lines.specs.Lines.{page_line}
use Rattle.operator_reports.proofs.put_operators.Given as goal

abbrev pub invariant-loop-i : goal.invariant-loop-i
invariant-loop-i l = (length l.out ≡ length l.initial.out) × (l.end ≤ 197 * l.i) × Appended l.initial.out 0 (rows (page_line l.page) l.i) l.out l.end
