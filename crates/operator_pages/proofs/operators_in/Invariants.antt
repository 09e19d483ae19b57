-- `operator_pages::operators_in` meets its contract: one more for each operator that has a row.
use mathlib.Core.Path.{◌≡◌}
use Prim.Native.Nat.{◌≤◌}
use lib.ListN.{length}
use Rattle.operator_pages.specs.Pages.{rows_below, tally_in}
use Rattle.operator_pages.proofs.operators_in.Given as goal

abbrev pub invariant-loop-tally : goal.invariant-loop-tally
invariant-loop-tally l = (l.found ≤ l.tally-index) × (l.found ≡ length (rows_below (tally_in l.fn.counts) l.tally-index))
