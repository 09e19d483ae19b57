-- `carriage_building::build` meets its contract, refusal by refusal.
use Rattle.std.specs.Prelude.{Err}
use mathlib.Core.Path.{◌≡◌, sym, ap, ◌∙◌}
use mathlib.Core.Bool.{true, false, not}
use lib.ListN.{length}
use Rattle.basics.specs.declared.Refusal.TheVariants as why
use Rattle.basics.proofs.RefusalLaws.{done, went_on, stopped}
use Rattle.station.specs.Codes.{typed_code}
use Rattle.vehicles.specs.Digits.{number_digits}
use Rattle.vehicles.proofs.NameLaws.{number-length}
use Rattle.carriage.specs.Building.{are_defaults}
use Rattle.carriage.proofs.BuildLaws.{number_passed, number_refused, defaults_refused, rule_refused, handed_out}
use borrow.Author.Rules.{rules}
use Rattle.carriage_building.proofs.build.Goals as goal

pub returns-then-is_err : goal.returns-then-is_err
returns-then-is_err c =
    let no : done c.check_number-checked.result ≡ false = ap done c.check_number-checked.ensures ∙ stopped c.check_number-checked.ensures c.is_err.ensures.value c.if-is_err.true in
    let end = number_refused c.args.number.now c.args.transmit c.args.power c.args.reference c.args.defaults c.check_number-checked.result c.check_number-checked.ensures no in
    (c.refused.ensures.0 ∙ end.0, c.refused.ensures.1 ∙ end.1)

pub returns-then-not-are_defaults : goal.returns-then-not-are_defaults
returns-then-not-are_defaults c =
    let yes = went_on c.check_number-checked.ensures c.is_err.ensures.value c.if-is_err.false in
    let end = defaults_refused c.args.number.now c.args.transmit c.args.power c.args.reference c.args.defaults yes (ap not (sym c.are_defaults.ensures) ∙ c.if-not-are_defaults.true-raw) in
    (c.refused-then-not-are_defaults.ensures.0 ∙ end.0, c.refused-then-not-are_defaults.ensures.1 ∙ end.1)

pub carriage_of-station-requires : goal.carriage_of-station-requires
carriage_of-station-requires c =
    let yes = went_on c.check_number-checked.ensures c.is_err.ensures.value c.if-is_err.false in
    let twelve : length c.args.number.now ≡ number_digits = number-length c.args.number.now (number_passed c.args.number.now yes).0 in
    search rules

pub returns-then-code-ne0 : goal.returns-then-code-ne0
returns-then-code-ne0 c =
    let yes = went_on c.check_number-checked.ensures c.is_err.ensures.value c.if-is_err.false in
    let defaults : not (are_defaults c.args.defaults) ≡ false = ap not (sym c.are_defaults.ensures) ∙ c.if-not-are_defaults.false-raw in
    let code = c.typed_code-code.ensures ∙ ap typed_code c.carriage_of-station.ensures in
    let end = rule_refused c.args.number.now c.args.transmit c.args.power c.args.reference c.args.defaults yes defaults (λ z. c.if-code-ne0.true (code ∙ z)) in
    (c.refused-then-code-ne0.ensures.0 ∙ ap (λ n. Err (why.RuleBroken n)) code ∙ end.0, c.refused-then-code-ne0.ensures.1 ∙ end.1)

pub returns : goal.returns
returns c =
    let yes = went_on c.check_number-checked.ensures c.is_err.ensures.value c.if-is_err.false in
    let defaults : not (are_defaults c.args.defaults) ≡ false = ap not (sym c.are_defaults.ensures) ∙ c.if-not-are_defaults.false-raw in
    let code = c.typed_code-code.ensures ∙ ap typed_code c.carriage_of-station.ensures in
    let end = handed_out c.args.number.now c.args.transmit c.args.power c.args.reference c.args.defaults yes defaults (sym code ∙ c.if-code-ne0.false) in
    (end.0, c.carriage_of-station.ensures ∙ end.1)
