-- `decimals::fraction_of` meets its contract.
use Prim.Native.Nat.{ℕ, ◌≤◌}
use mathlib.Core.Path.{◌≡◌, sym, ap, ◌∙◌}
use mathlib.Core.Bool.{true, false}
use lib.ListN.{length, drop}
use borrow.Author.Tests.{eq-eqb, ne_eqb, not-true, not-false}
use Rattle.columns.specs.Texts.{ended, blank}
use Rattle.numerals.specs.Numbers.{leading}
use Rattle.decimals.specs.Decimals.{fraction_of}
use Rattle.columns.proofs.TextLaws.{ended-length, from_on}
use Rattle.numerals.proofs.NumberLaws.{leading_few, leading_inside}
use Rattle.decimals.proofs.DecimalLaws.{zeros_fit}
use native.Mathlib.Omega.{arith}
use borrow.Author.Rules.{rules}
use Rattle.decimals.proofs.fraction_of.Goals as goal
use Rattle.decimals.proofs.fraction_of.Goals.{After-is_blank_stepwise, Else-n-eq0}
use Rattle.std.specs.Prelude.{Some, Ok}

pub returns-then-n-eq0 : goal.returns-then-n-eq0
unfolding fraction_of
returns-then-n-eq0 c =
    let l = leading c.args.b c.args.t.now in
    let none : ended l ≡ true = ended-length l ∙ eq-eqb (length l) 0 (sym c.digits-f.ensures.0 ∙ c.if-n-eq0.true) in
    rw none

-- the digits are bytes that are there
inside : (c : Else-n-eq0) → c.digits-f.result.count ≤ length c.args.t.now
inside c =
    omega (arith, leading_inside c.args.b c.args.t.now, c.digits-f.ensures.0)

-- and there are some
some : (c : Else-n-eq0) → ended (leading c.args.b c.args.t.now) ≡ false
some c =
    let l = leading c.args.b c.args.t.now in
    ended-length l ∙ ne_eqb (length l) 0 (λ e. c.if-n-eq0.false (c.digits-f.ensures.0 ∙ e))

-- what follows them is as blank as was found
follows : (c : After-is_blank_stepwise) →
    c.is_blank_stepwise.result ≡ blank (drop (length (leading c.args.b c.args.t.now)) c.args.t.now)
follows c =
    let t = c.args.t.now in
    c.is_blank_stepwise.ensures ∙ ap blank (from_on t c.digits-f.result.count ∙ ap (λ (n : ℕ). drop n t) c.digits-f.ensures.0)

pub slice_bounds-is_blank_stepwise-count : goal.slice_bounds-is_blank_stepwise-count
slice_bounds-is_blank_stepwise-count c = (inside c)

pub slice_bounds-is_blank_stepwise-start : goal.slice_bounds-is_blank_stepwise-start
slice_bounds-is_blank_stepwise-start c = let h = (inside c) in search rules

pub returns-then-not-is_blank_stepwise : goal.returns-then-not-is_blank_stepwise
unfolding fraction_of
returns-then-not-is_blank_stepwise c = rw ((some (goal.at.returns-then-not-is_blank_stepwise c).Else-n-eq0), ← (follows (goal.at.returns-then-not-is_blank_stepwise c).After-is_blank_stepwise), not-true c.is_blank_stepwise.result c.if-not-is_blank_stepwise.true-raw)

pub overflow_sub-b : goal.overflow_sub-b
overflow_sub-b c =
    omega (arith, leading_few c.args.b c.args.t.now, c.digits-f.ensures.0)

pub scaled-requires : goal.scaled-requires
scaled-requires c =
    (omega (arith, c.requires), rw (c.digits-f.ensures.0, c.digits-f.ensures.1) (zeros_fit c.args.b c.args.v c.args.t.now c.requires.0 c.requires.1))

pub returns : goal.returns
unfolding fraction_of
returns c =
    rw ((some (goal.at.returns c).Else-n-eq0), ← (follows (goal.at.returns c).After-is_blank_stepwise), not-false c.is_blank_stepwise.result c.if-not-is_blank_stepwise.false-raw)
    (ap (λ (n : ℕ). Ok (Some n)) (c.scaled.ensures ∙ rw (c.digits-f.ensures.0, c.digits-f.ensures.1)))
