-- `desk_operators::put_rows` meets its contract: the rows of the operators so far stand, each behind the one before it.
use mathlib.Core.Path.{◌≡◌}
use Prim.Native.Nat.{◌*◌, ◌≤◌}
use lib.ListN.{length}
use Rattle.printing.specs.Promises.{Appended}
use Rattle.operator_pages.specs.Pages.{rows_below, tally_in}
use Rattle.desk_operators.specs.Rows.{operator_width}
use Rattle.desk_operators.specs.Promises.{spelled_rows}
use Rattle.desk_operators.proofs.put_rows.Given as goal

abbrev pub invariant-loop-c : goal.invariant-loop-c
invariant-loop-c l = (length l.out ≡ length l.initial.out) × (l.end ≤ operator_width * length (rows_below (tally_in l.counts) l.c)) × Appended l.initial.out 0 (spelled_rows (rows_below (tally_in l.counts) l.c)) l.out l.end
