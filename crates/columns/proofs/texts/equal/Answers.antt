-- `columns::texts::equal` meets its contract: what was passed from the back is equal.
use Prim.Native.Nat.{ℕ, ◌≤◌}
use mathlib.Core.Path.{◌≡◌, sym, ap, ◌∙◌}
use lib.ListN.{take}
use Rattle.columns.specs.Texts.{same}
use Rattle.columns.proofs.TextLaws.{not_same, same-on, same_off}
use native.Mathlib.Omega.{arith}
use Rattle.columns.proofs.texts.equal.Goals as goal

none : (n : ℕ) → n ≤ 0 → n ≡ 0
none n h = omega arith

pub returns-then-a-b : goal.returns-then-a-b
returns-then-a-b c = sym (not_same _ _ c.if-a-b.true)

pub returns-then-a-i : goal.returns-then-a-i
returns-then-a-i c =
    sym (c.loop-i.invariant.1 ∙ same_off c.args.a.now c.args.b.now c.loop-i.i (omega arith) (omega arith) (omega arith) c.if-a-i.true)

pub loop-i-preserved : goal.loop-i-preserved
loop-i-preserved c =
    (omega arith, c.loop-i.invariant.1 ∙ same-on c.args.a.now c.args.b.now c.loop-i.i (omega arith) (omega arith) (omega arith) c.if-a-i.false)

pub returns : goal.returns
unfolding same
returns c =
    sym (c.loop-i.invariant.1 ∙ ap (λ (n : ℕ). same (take n c.args.a.now) (take n c.args.b.now)) (none c.loop-i.i (omega arith)))
