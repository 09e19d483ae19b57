-- `signed_numerals::read_signed` meets its contract, by the law of numbers with a sign.
use Rattle.numerals.specs.Numbers.{in_sign, admits_whole, whole_digits, signed_of}
use Rattle.columns.proofs.TextLaws.{from_on}
use Rattle.numerals.proofs.NumberLaws.{whole_small, number-blank, number_read}
use Rattle.numerals.proofs.Letters.{signed-whole}
use mathlib.Core.Path.{ap, ◌∙◌}
use mathlib.Core.Bool.{true}
use Rattle.flaws.specs.declared.Flaw.{Flaw}
use Rattle.signed_numerals.proofs.read_signed.Goals as goal

pub returns-then-i-s : goal.returns-then-i-s
unfolding signed_of
returns-then-i-s c = number-blank true (admits_whole true) whole_digits _ _ c.spaces-i.ensures.1 c.if-i-s.true

pub in_sign-requires : goal.in_sign-requires
in_sign-requires c = rw c.only_digits.ensures (whole_small _)

pub returns : goal.returns
unfolding signed_of
returns c =
    let s = c.args.s.now in
    number_read true (admits_whole true) whole_digits s c.spaces-i.result c.spaces-i.ensures.1 c.spaces-i.ensures.0 c.if-i-s.false
    (from_on s c.spaces-i.result) c.has_minus-minus.ensures c.after_sign.ensures c.only_digits.ensures
    (c.in_sign.ensures ∙ ap (λ (x : Flaw). in_sign x c.has_minus-minus.result c.only_digits.result) (signed-whole s))
