-- `operator_counts::tallies` meets its contract: the table holds the tallies of the stations heard so far.
use mathlib.Core.Path.{◌≡◌}
use Rattle.operator_counts.specs.Counts.{operators, heard_at, tally_of, tabled}
use Rattle.operator_counts.proofs.tallies.Given as goal

abbrev pub invariant-loop-i : goal.invariant-loop-i
invariant-loop-i l = l.counts ≡ tabled (tally_of (heard_at l.file) l.i) operators
