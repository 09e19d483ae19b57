-- `numeral_writing::put_digits` meets its contract. The invariant: what is left to write, in front of what stands, is what was to be written.
use Prim.Native.Nat.{ℕ, ◌+◌, ◌-◌, ◌/◌, ◌%◌}
use mathlib.Core.Path.{◌≡◌, sym, ap, ◌∙◌}
use native.Mathlib.Omega.{arith}
use lib.ListN.{set, drop, length-set}
use lib.Seq.{take-set-le}
use Rattle.numerals.specs.Numbers.{spell_digits}
use Rattle.numerals.proofs.Spelling.{spell_turn, div_turn, div_none, put-done}
use Rattle.numeral_writing.proofs.PairLaws.{pair_turn, pair_left}
use Rattle.numeral_writing.proofs.put_digits.Goals as goal

pub loop-left-preserved : goal.loop-left-preserved
loop-left-preserved c =
    let at = c.args.at in (
      simp length-set c.loop-left.invariant.0,
      omega arith,
      take-set-le at _ (at + (c.loop-left.left - 2)) _ (omega arith) ∙ take-set-le at c.loop-left.s (at + (c.loop-left.left - 2) + 1) _ (omega arith) ∙ c.loop-left.invariant.2,
      c.loop-left.invariant.3 ∙ pair_turn c.loop-left.s at c.loop-left.left c.loop-left.rest c.loop-left-test.true (omega arith),
      c.loop-left.invariant.4 ∙ pair_left c.loop-left.left c.loop-left.rest c.loop-left-test.true,
    )

pub returns-then-left-eq0 : goal.returns-then-left-eq0
returns-then-left-eq0 c =
    (sym (c.loop-left.invariant.4 ∙ div_none _ _ (omega arith)), put-done c.loop-left.s _ _ _ _ _ (omega arith) c.loop-left.invariant.2 c.loop-left.invariant.3)

pub returns : goal.returns
returns c =
    let at = c.args.at in
    let k = c.loop-left.left - 1 in
    let x = 48 + c.loop-left.rest % 10 in
    let place : at + k ≡ at = omega arith in
    let one = spell_turn c.loop-left.s at c.loop-left.left c.loop-left.rest (omega arith) (omega arith) ∙ ap (λ (i : ℕ). spell_digits k (c.loop-left.rest / 10) (drop (at + k) (set c.loop-left.s i x))) place in (
      sym (c.loop-left.invariant.4 ∙ div_turn c.loop-left.left c.loop-left.rest (omega arith) ∙ div_none k (c.loop-left.rest / 10) (omega arith)),
      put-done (set c.loop-left.s at x) _ _ at k (c.loop-left.rest / 10) (omega arith) (take-set-le at c.loop-left.s at x (omega arith) ∙ c.loop-left.invariant.2) (c.loop-left.invariant.3 ∙ one),
    )
