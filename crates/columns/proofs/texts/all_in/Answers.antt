-- `columns::texts::all_in` meets its contract: what was found so far holds of the bytes that were passed.
use mathlib.Core.Path.{sym, ◌∙◌}
use Rattle.columns.specs.Sets.{set_of}
use Rattle.columns.proofs.TextLaws.{every_next, every-done}
use Rattle.columns.proofs.texts.all_in.Goals as goal

pub loop-c-preserved : goal.loop-c-preserved
loop-c-preserved c =
    c.loop-c.invariant ∙ every_next (set_of c.args.set) c.args.s.now c.loop-c.c-index c.loop-c.all c.has-all.result c.loop-c-test.true c.has-all.ensures

pub returns : goal.returns
returns c = sym (c.loop-c.invariant ∙ every-done _ _ _ _ c.loop-c-test.false)
