-- `columns::texts::is_blank` meets its contract: blank is a test on every byte, and what was found so far holds of the bytes that were passed.
use mathlib.Core.Path.{refl, sym, ◌∙◌}
use lib.Dec.{eqb}
use lib.ListN.{get_or}
use Rattle.columns.proofs.TextLaws.{every_next, every-done}
use Rattle.columns.proofs.TrimLaws.{blank-every}
use Rattle.columns.proofs.texts.is_blank.Goals as goal

pub loop-c-preserved : goal.loop-c-preserved
loop-c-preserved c =
    let s = c.args.s.now in
    c.loop-c.invariant ∙ every_next (λ x. eqb x 32) s c.loop-c.c-index c.loop-c.all (eqb (get_or s c.loop-c.c-index 0) 32) c.loop-c-test.true refl

pub returns : goal.returns
returns c = sym (blank-every c.args.s.now ∙ c.loop-c.invariant ∙ every-done _ _ _ _ c.loop-c-test.false)
