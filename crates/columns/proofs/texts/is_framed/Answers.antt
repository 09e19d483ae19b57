-- `columns::texts::is_framed` meets its contract: what was found so far holds of the bytes that were passed.
use mathlib.Core.Path.{sym, ◌∙◌}
use Rattle.columns.proofs.PlaceLaws.{framed_next, framed_done}
use Rattle.columns.proofs.texts.is_framed.Goals as goal

pub loop-i-preserved : goal.loop-i-preserved
loop-i-preserved c =
    c.loop-i.invariant ∙ framed_next c.args.low.now c.args.high.now c.args.s.now c.requires.0 c.requires.1 c.loop-i.i c.loop-i.all c.is_between-all.result c.loop-i-test.true c.is_between-all.ensures

pub returns : goal.returns
returns c =
    sym (c.loop-i.invariant ∙ framed_done c.args.low.now c.args.high.now c.args.s.now c.requires.0 c.requires.1 c.loop-i.i c.loop-i.all c.loop-i-test.false)
