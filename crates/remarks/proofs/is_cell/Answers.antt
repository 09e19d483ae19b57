-- `remarks::is_cell` meets its contract: what was found so far holds of the bytes that were passed, and what is left stands behind the last of them.
use mathlib.Core.Path.{refl, sym, ◌∙◌}
use Rattle.remarks.specs.Remarks.{cell_good}
use Rattle.remarks.proofs.CellLaws.{cell_next, cell-done}
use Rattle.remarks.proofs.is_cell.Goals as goal

pub loop-c-init : goal.loop-c-init
unfolding cell_good
loop-c-init c = refl

pub loop-c-preserved : goal.loop-c-preserved
loop-c-preserved c =
    rw c.is_hex.ensures (c.loop-c.invariant ∙ cell_next c.args.s.now c.loop-c.c-index c.loop-c.before c.loop-c.all c.loop-c-test.true)

pub returns : goal.returns
returns c =
    sym (c.loop-c.invariant ∙ cell-done c.args.s.now c.loop-c.c-index c.loop-c.before c.loop-c.all c.loop-c-test.false)
