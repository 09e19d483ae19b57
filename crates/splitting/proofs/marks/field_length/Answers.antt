-- `splitting::marks::field_length` meets its contract: the bytes that were passed are no marks.
use mathlib.Core.Path.{◌≡◌, sym, ◌∙◌}
use lib.ListN.{length}
use native.Mathlib.Omega.{arith}
use Rattle.semicolons.proofs.MarkLaws.{pass_on, mark_ends, text_ends}
use Rattle.splitting.proofs.marks.field_length.Goals as goal

pub returns-then-is_mark : goal.returns-then-is_mark
returns-then-is_mark c = mark_ends _ _ c.loop-i.invariant c.loop-i-test.true (sym c.is_mark.ensures ∙ c.if-is_mark.true)

pub loop-i-preserved : goal.loop-i-preserved
loop-i-preserved c = pass_on _ _ c.loop-i.invariant c.loop-i-test.true (sym c.is_mark.ensures ∙ c.if-is_mark.false)

pub returns : goal.returns
returns c =
    let all : c.loop-i.i ≡ length c.args.s.now = omega (arith, c.loop-i.invariant.0, c.loop-i-test.false) in
    rw all at (text_ends _ _ c.loop-i.invariant c.loop-i-test.false)
