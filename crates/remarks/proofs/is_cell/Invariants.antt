-- `remarks::is_cell` meets its contract: what was found so far holds of the bytes that were passed, and what is left stands behind the last of them.
use mathlib.Core.Path.{◌≡◌}
use mathlib.Core.Bool.{◌&&◌}
use lib.ListN.{drop}
use Rattle.remarks.specs.Remarks.{cell_good}
use Rattle.remarks.proofs.CellLaws.{cell_behind}
use Rattle.remarks.proofs.is_cell.Given as goal

abbrev pub invariant-loop-c : goal.invariant-loop-c
invariant-loop-c l = cell_good l.s ≡ (l.all && cell_behind l.before (drop l.c-index l.s))
