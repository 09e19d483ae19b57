-- `operator_reports::stations_on` meets its contract: so many rows are summed.
use mathlib.Core.Path.{◌≡◌}
use Prim.Native.Nat.{◌*◌, ◌≤◌}
use Rattle.operator_lines.specs.Lines.{page_sum}
use Rattle.operator_reports.proofs.stations_on.Given as goal

abbrev pub invariant-loop-i : goal.invariant-loop-i
invariant-loop-i l = (l.sum ≡ page_sum l.page l.i) × (l.sum ≤ 65535 * l.i)
