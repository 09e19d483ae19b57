-- `columns::texts::trimmed_length` meets its contract: what was passed from the back is spaces.
use Prim.Native.Nat.{ℕ, ◌+◌, ◌-◌, ◌<◌, ◌≤◌}
use mathlib.Core.Path.{◌≡◌, ap, ◌∙◌}
use lib.ListN.{take}
use Rattle.columns.specs.Texts.{trimmed}
use Rattle.columns.proofs.TextLaws.{trimmed-on, trimmed_off}
use native.Mathlib.Omega.{arith}
use Rattle.columns.proofs.texts.trimmed_length.Goals as goal

none : (n : ℕ) → n ≤ 0 → n ≡ 0
none n h = omega arith

back : (n : ℕ) → 0 < n → n - 1 + 1 ≡ n
back n h = omega arith

pub returns-then-s-i-ne32 : goal.returns-then-s-i-ne32
returns-then-s-i-ne32 c = rw (back c.loop-i.i c.loop-i-test.true) (c.loop-i.invariant.0, c.loop-i.invariant.1 ∙ trimmed_off _ _ c.loop-i-test.true c.loop-i.invariant.0 c.if-s-i-ne32.true)

pub loop-i-preserved : goal.loop-i-preserved
loop-i-preserved c = (omega arith, c.loop-i.invariant.1 ∙ trimmed-on _ _ c.loop-i-test.true c.loop-i.invariant.0 c.if-s-i-ne32.false)

pub returns : goal.returns
unfolding trimmed
returns c = (omega arith, c.loop-i.invariant.1 ∙ ap (λ (n : ℕ). trimmed (take n c.args.s.now)) (none c.loop-i.i c.loop-i-test.false))
