-- `numerals::digits` meets its contract. The invariant: what is left to read, onto the value so far, is what was to be read, and there is room for it.
use Prim.Native.Nat.{◌-◌, ◌+◌, ◌<◌}
use mathlib.Core.Path.{◌≡◌, sym, ◌∙◌}
use native.Mathlib.Nat.{add-zero}
use lib.ListN.{drop}
use Rattle.numerals.specs.Numbers.{number_from}
use Rattle.numerals.proofs.NumberLaws.{Turn, turn, leading_other, leading-none}
use native.Mathlib.Omega.{arith}
use Rattle.numerals.proofs.digits.Goals as goal
use Rattle.numerals.proofs.digits.Goals.{Else-not-is_digit}

-- the digit that is read
digit : (c : Else-not-is_digit) →
    Turn c.args.t.now c.loop-count.count (c.args.most - c.loop-count.count) c.loop-count.value c.byte-c.result
digit c =
    let more : 0 < c.args.most - c.loop-count.count = omega arith in
    turn _ _ _ _ _ more (omega arith) c.loop-count.invariant.0 c.byte-c.ensures (sym c.is_digit.ensures ∙ c.if-not-is_digit.false)

pub returns-then-not-is_digit : goal.returns-then-not-is_digit
unfolding number_from
returns-then-not-is_digit c =
    let none = leading_other c.args.t.now c.loop-count.count (c.args.most - c.loop-count.count) (rw c.byte-c.ensures at (sym c.is_digit.ensures ∙ c.if-not-is_digit.true)) in
    (rw (none, add-zero) at c.loop-count.invariant.1, rw none at c.loop-count.invariant.2)

pub overflow_mul-value : goal.overflow_mul-value
overflow_mul-value c = omega (arith, (digit (goal.at.overflow_mul-value c).Else-not-is_digit))

pub overflow_add-value : goal.overflow_add-value
overflow_add-value c = omega (arith, (digit (goal.at.overflow_add-value c).Else-not-is_digit), c.from.ensures)

pub loop-count-preserved : goal.loop-count-preserved
loop-count-preserved c =
    let i = c.loop-count.invariant in
    let d = digit (goal.at.loop-count-preserved c).Else-not-is_digit in
    let left : c.args.most - (c.loop-count.count + 1) ≡ c.args.most - c.loop-count.count - 1 = omega arith in
    rw (left, c.from.ensures) (omega (arith, d), sym d.counted ∙ i.1, sym d.said ∙ i.2, omega (arith, d))

pub returns : goal.returns
unfolding number_from
returns c =
    let none = leading-none (c.args.most - c.loop-count.count) (drop c.loop-count.count c.args.t.now) (omega arith) in
    let all : c.loop-count.count ≡ c.args.most = omega arith in
    (sym all ∙ (rw (none, add-zero) at c.loop-count.invariant.1), rw none at c.loop-count.invariant.2)
