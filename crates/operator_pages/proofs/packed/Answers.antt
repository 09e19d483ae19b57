-- `operator_pages::packed` meets its contract: the rows of the operators so far stand in front.
use Rattle.operator_pages.proofs.PackLaws.{packing_none, packing_skip, packing_more, packing_done}
use borrow.Author.Rules.{rules}
use Rattle.operator_pages.proofs.packed.Goals as goal
use Rattle.operator_pages.proofs.packed.Goals.{then-tally-ne0, else-tally-ne0}

pub loop-c-init : goal.loop-c-init
loop-c-init c = packing_none _ _ c.no_rows-page.ensures

pub loop-c-preserved : goal.loop-c-preserved
loop-c-preserved c =
    elim c.if-tally-ne0.branch [
      | then-tally-ne0 w ↦
          rw (w.page-is, w.n-is)
          (packing_more c.args.counts c.loop-c.page.rows c.loop-c.n c.loop-c.c c.loop-c.invariant.0 (search rules) w.if-tally-ne0.true w.operator_row.result w.operator_row.ensures, c.loop-c.invariant.1)
      | else-tally-ne0 w ↦
          rw (w.page-is, w.n-is)
          (packing_skip c.args.counts c.loop-c.page.rows c.loop-c.n c.loop-c.c c.loop-c.invariant.0 (search rules) w.if-tally-ne0.false, c.loop-c.invariant.1)
    ]

pub returns : goal.returns
returns c =
    packing_done c.args.counts c.loop-c.page c.loop-c.n c.loop-c.c c.loop-c.invariant.0 c.loop-c-test.false c.loop-c.invariant.1
