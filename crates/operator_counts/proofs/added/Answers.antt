-- `operator_counts::added` meets its contract: what has no frequency is counted among the stations alone.
use native.Mathlib.Nat.{add-zero}
use Rattle.operator_counts.specs.Counts.{added_to}
use Rattle.operator_counts.proofs.added.Goals as goal

pub returns-in-None : goal.returns-in-None
unfolding added_to
returns-in-None c = simp (c.in-None.is, c.anew.ensures, c.anew-in-None.ensures, add-zero)

pub returns-in-Some : goal.returns-in-Some
unfolding added_to
returns-in-Some c = simp (c.in-Some.is, c.lower-low.ensures, c.higher-high.ensures)
