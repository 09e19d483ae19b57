-- `walking::first_row` meets its contract: the rows that were passed are kept.
use Prim.Native.Nat.{◌-◌}
use mathlib.Core.Path.{refl, sym, ◌∙◌}
use Rattle.walking.proofs.WalkLaws.{row_on, row_off, row_end}
use Rattle.walking.proofs.first_row.Goals as goal

pub loop-j-init : goal.loop-j-init
loop-j-init c = refl

pub is_kept-requires : goal.is_kept-requires
is_kept-requires c = c.loop-j-test.true

pub returns-then-not-is_kept : goal.returns-then-not-is_kept
returns-then-not-is_kept c = sym (c.loop-j.invariant ∙ row_off _ _ _ _ _ c.loop-j.j c.loop-j-test.true (sym c.is_kept.ensures ∙ c.if-not-is_kept.true))

pub loop-j-preserved : goal.loop-j-preserved
loop-j-preserved c = c.loop-j.invariant ∙ row_on _ _ _ _ _ c.loop-j.j c.loop-j-test.true (sym c.is_kept.ensures ∙ c.if-not-is_kept.false)

pub returns : goal.returns
returns c = sym (c.loop-j.invariant ∙ row_end _ _ _ _ _ c.loop-j.j c.loop-j-test.false)
