-- `numerals::only_digits` meets its contract.
use mathlib.Core.Path.{◌≡◌, sym, ap, ◌∙◌}
use mathlib.Core.Bool.{true, false}
use lib.ListN.{length}
use borrow.Author.Tests.{eq-eqb, ne_eqb}
use Rattle.columns.specs.Texts.{ended}
use Rattle.numerals.specs.Numbers.{leading, whole_digits}
use Rattle.columns.proofs.TextLaws.{ended-length, at_end, not_at_end}
use Rattle.numerals.proofs.NumberLaws.{leading_inside}
use Rattle.numerals.proofs.only_digits.Goals as goal
use Rattle.std.specs.Prelude.{Some, Ok, ℕ}

pub returns-then-n-eq0 : goal.returns-then-n-eq0
unfolding whole_digits
returns-then-n-eq0 c =
    let l = leading 18 c.args.t.now in
    let none : ended l ≡ true = ended-length l ∙ eq-eqb (length l) 0 (sym c.digits-d.ensures.0 ∙ c.if-n-eq0.true) in
    rw none

pub returns-then-n-t : goal.returns-then-n-t
unfolding whole_digits
returns-then-n-t c =
    let t = c.args.t.now in
    let l = leading 18 t in
    let some : ended l ≡ false = ended-length l ∙ ne_eqb (length l) 0 (λ e. c.if-n-eq0.false (c.digits-d.ensures.0 ∙ e)) in
    rw (some, at_end t (length l) (sym c.digits-d.ensures.0 ∙ c.if-n-t.true)) (ap (λ (n : ℕ). Ok (Some n)) c.digits-d.ensures.1)

pub returns : goal.returns
unfolding whole_digits
returns c =
    let t = c.args.t.now in
    let l = leading 18 t in
    let some : ended l ≡ false = ended-length l ∙ ne_eqb (length l) 0 (λ e. c.if-n-eq0.false (c.digits-d.ensures.0 ∙ e)) in
    rw (some, not_at_end t (length l) (leading_inside 18 t) (λ e. c.if-n-t.false (c.digits-d.ensures.0 ∙ e)))
