-- `vehicles::digits::digit_sum` meets its contract: what was added, and what is still to come, are all.
use Rattle.std.proofs.Common.{arith, ℕ, ◌≡◌, true, List, [], ◌∷◌, ◌++◌, ◌+◌, ◌-◌, ◌%◌, ◌<◌, length, get_or, ap, ◌∙◌, refl, length-append}
use Rattle.vehicles.specs.Digits.{weighed, sum_from, digits_of}
use Rattle.vehicles.proofs.digits.digit_sum.Goals as goal

-- two digits, and the sum over those behind them
two : (x rest : List ℕ) → length x ≡ 2 → sum_from true (digits_of (x ++ rest)) ≡ weighed true (get_or x 0 0 - 48) + (get_or x 1 0 - 48) + sum_from true (digits_of rest)
unfolding sum_from
two [] rest e = absurd (omega (arith, e))
two (a ∷ []) rest e = absurd (omega (arith, e))
two (a ∷ b ∷ []) rest e = omega arith
two (a ∷ b ∷ d ∷ x) rest e = absurd (omega (arith, e))

-- where none is left
none : (rest : List ℕ) → length rest < 2 → length rest % 2 ≡ 0 → sum_from true (digits_of rest) ≡ 0
unfolding sum_from
none [] h e = refl
none (a ∷ []) h e = absurd (omega (arith, e))
none (a ∷ b ∷ rest) h e = absurd (omega (arith, h))

pub loop-pair-preserved : goal.loop-pair-preserved
loop-pair-preserved c =
    let s = c.in-Some.ensures.steps in
    let long : length c.in-Some.pair.now ≡ 2 = s.1.1 ∙ c.loop-pair.invariant.0 in
    let all = ap length s.1.0 ∙ length-append c.in-Some.pair.now c.next.new.self.rest.now in
    let sums = ap (λ (t : List ℕ). sum_from true (digits_of t)) s.1.0 ∙ two c.in-Some.pair.now c.next.new.self.rest.now long in (
      s.0 ∙ c.loop-pair.invariant.0,
      omega (arith, all, long, c.loop-pair.invariant.1),
      omega (arith, all, long, c.loop-pair.invariant.2, c.digit-second.ensures.1, c.doubled-first.ensures.1),
      omega (arith, c.loop-pair.invariant.3, sums, c.digit-second.ensures.0, c.doubled-first.ensures.0, c.digit.ensures.0),
    )

pub returns : goal.returns
returns c =
    let few = c.in-None.ensures.steps.1.0 in
    omega (arith, c.loop-pair.invariant.3, none c.loop-pair.pair-iterator.rest.now (omega (arith, few, c.loop-pair.invariant.0)) c.loop-pair.invariant.1)
