-- `vehicles::digits::check_number` meets its contract.
use mathlib.Core.Path.{◌≡◌, sym, ◌∙◌}
use mathlib.Core.Bool.{true}
use lib.ListN.{length}
use Rattle.basics.specs.Outcomes.{first_refusal}
use Rattle.vehicles.specs.Digits.{number_digits, is_number}
use Rattle.vehicles.proofs.NameLaws.{number-length}
use borrow.Author.Rules.{rules}
use Rattle.vehicles.proofs.digits.check_number.Goals as goal

pub returns-then-not-is_number : goal.returns-then-not-is_number
unfolding first_refusal
returns-then-not-is_number c = rw (← c.is_number.ensures, c.if-not-is_number.true-raw)

pub is_last_right-requires : goal.is_last_right-requires
is_last_right-requires c =
    let number = c.args.number.now in
    let digits : is_number number ≡ true = sym c.is_number.ensures ∙ c.if-not-is_number.false in
    let twelve : length number ≡ number_digits = number-length number digits in
    search rules

pub returns-then-not-is_last_right : goal.returns-then-not-is_last_right
unfolding first_refusal
returns-then-not-is_last_right c = rw (← c.is_number.ensures, c.if-not-is_number.false-raw, ← c.is_last_right.ensures, c.if-not-is_last_right.true-raw)

pub returns : goal.returns
unfolding first_refusal
returns c = rw (← c.is_number.ensures, c.if-not-is_number.false-raw, ← c.is_last_right.ensures, c.if-not-is_last_right.false-raw)
