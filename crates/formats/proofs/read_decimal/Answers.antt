-- `formats::read_decimal` meets its contract, by the law of numbers with a sign.
use mathlib.Core.Path.{◌≡◌, sym, ap, ◌∙◌}
use mathlib.Core.Bool.{Bool}
use Rattle.flaws.specs.Flaws.{unread}
use Rattle.flaws.specs.declared.Flaw.{Flaw}
use Prim.Native.Nat.{◌^◌, ◌<◌}
use Rattle.numerals.specs.Numbers.{in_sign, amount}
use Rattle.decimals.specs.Decimals.{magnitude_of, admits_decimal, decimal_of}
use Rattle.formats.specs.Formats.{digits_before, digits_after, may_sign, format_of}
use Rattle.columns.proofs.TextLaws.{from_on}
use Rattle.numerals.proofs.NumberLaws.{number-blank, number_read}
use Rattle.formats.proofs.FormatLaws.{few_digits}
use Rattle.decimals.proofs.DecimalLaws.{magnitude_small}
use Rattle.decimals.proofs.Letters.{plain-decimal, signed_decimal}
use Rattle.formats.proofs.read_decimal.Goals as goal
use Rattle.formats.proofs.read_decimal.Goals.{After-magnitude_of-w}
use Rattle.std.specs.Prelude.{Option, Result, ℤ}

-- what was read, where its bytes are judged as the field admits them
read : (c : After-magnitude_of-w) → (r : Result (Option ℤ) Flaw) → r ≡ in_sign (unread (admits_decimal c.may_sign-sign.result) c.args.s.now) c.has_minus-minus.result c.magnitude_of-w.result → r ≡ format_of c.args.format c.args.s.now
unfolding decimal_of
read c r h =
    let s = c.args.s.now in
    rw (← c.may_sign-sign.ensures, ← c.digits_after-b.ensures, ← c.digits_before-a.ensures)
    (number_read c.may_sign-sign.result (admits_decimal c.may_sign-sign.result) (magnitude_of c.digits_before-a.result c.digits_after-b.result) s c.spaces-i.result
    c.spaces-i.ensures.1 c.spaces-i.ensures.0 c.if-i-s.false (from_on s c.spaces-i.result)
    c.has_minus-minus.ensures c.after_sign.ensures c.magnitude_of-w.ensures h)

-- and what is known of its size
small : (c : After-magnitude_of-w) → amount c.magnitude_of-w.result < 10 ^ 18
small c =
    rw (c.magnitude_of-w.ensures, c.digits_before-a.ensures, c.digits_after-b.ensures)
    (magnitude_small _ _ _ (few_digits c.args.format))

pub returns-then-i-s : goal.returns-then-i-s
unfolding decimal_of
returns-then-i-s c =
    let f = c.args.format in
    number-blank (may_sign f) (admits_decimal (may_sign f)) (magnitude_of (digits_before f) (digits_after f)) _ _ c.spaces-i.ensures.1 c.if-i-s.true

pub magnitude_of-w-requires : goal.magnitude_of-w-requires
magnitude_of-w-requires c =
    rw (c.digits_before-a.ensures, c.digits_after-b.ensures) (few_digits c.args.format)

pub in_sign-requires : goal.in_sign-requires
in_sign-requires c = (small (goal.at.in_sign-requires c).After-magnitude_of-w)

pub in_sign-requires-else-sign : goal.in_sign-requires-else-sign
in_sign-requires-else-sign c = (small (goal.at.in_sign-requires-else-sign c).After-magnitude_of-w)

pub returns-then-sign : goal.returns-then-sign
returns-then-sign c =
    let s = c.args.s.now in
    (read (goal.at.returns-then-sign c).After-magnitude_of-w) _ (c.in_sign.ensures ∙ ap (λ (x : Flaw). in_sign x c.has_minus-minus.result c.magnitude_of-w.result) (signed_decimal s ∙ ap (λ (b : Bool). unread (admits_decimal b) s) (sym c.if-sign.true)))

pub returns-else-sign : goal.returns-else-sign
returns-else-sign c =
    let s = c.args.s.now in
    (read (goal.at.returns-else-sign c).After-magnitude_of-w) _ (c.in_sign-else-sign.ensures ∙ ap (λ (x : Flaw). in_sign x c.has_minus-minus.result c.magnitude_of-w.result) (plain-decimal s ∙ ap (λ (b : Bool). unread (admits_decimal b) s) (sym c.if-sign.false)))
