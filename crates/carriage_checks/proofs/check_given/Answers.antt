-- `carriage_checks::check_given` meets its contract, refusal by refusal.
use mathlib.Core.Path.{◌≡◌, sym, ap, ◌∙◌}
use mathlib.Core.Bool.{true, false}
use mathlib.Core.List.{List}
use Prim.Native.Nat.{ℕ}
use Rattle.basics.specs.Outcomes.{first_refusal}
use Rattle.basics.proofs.RefusalLaws.{none_told, passed_on, error_done}
use Rattle.vehicles.specs.Digits.{number_tests}
use Rattle.semicolons.specs.Fields.{none_longer}
use Rattle.carriage_lines.specs.Lines.{is_carriage_line, own_fields, own_places}
use Rattle.carriage_lines.proofs.GivenLaws.{marks_are, not_a_record, not_marked, long_own, wrong_number, not-mobile, all_given}
use Rattle.carriage_checks.proofs.check_given.Goals as goal

pub returns-then-defaults-ne219 : goal.returns-then-defaults-ne219
returns-then-defaults-ne219 c =
    not_a_record c.args.line.now c.args.defaults.now c.if-defaults-ne219.true

pub returns-then-not-is_marked : goal.returns-then-not-is_marked
returns-then-not-is_marked c =
    let t = c.args.line.now in
    let d = c.args.defaults.now in
    let marked : is_carriage_line t ≡ false = sym (c.is_marked.ensures ∙ marks_are t) ∙ c.if-not-is_marked.true in
    not_marked t d c.if-defaults-ne219.false marked

pub returns-then-not-fields_fit : goal.returns-then-not-fields_fit
returns-then-not-fields_fit c =
    let t = c.args.line.now in
    let d = c.args.defaults.now in
    let marked : is_carriage_line t ≡ true = sym (c.is_marked.ensures ∙ marks_are t) ∙ c.if-not-is_marked.false in
    let short : none_longer own_places (own_fields t) ≡ false = sym c.fields_fit.ensures ∙ c.if-not-fields_fit.true in
    long_own t d c.if-defaults-ne219.false marked short

pub returns-in_err-check_number : goal.returns-in_err-check_number
returns-in_err-check_number c =
    let t = c.args.line.now in
    let d = c.args.defaults.now in
    let marked : is_carriage_line t ≡ true = sym (c.is_marked.ensures ∙ marks_are t) ∙ c.if-not-is_marked.false in
    let short : none_longer own_places (own_fields t) ≡ true = sym c.fields_fit.ensures ∙ c.if-not-fields_fit.false in
    let checked = passed_on c.from_residual.ensures.1 c.in_err-check_number.ensures ∙ ap (λ (x : List ℕ). first_refusal (number_tests x)) c.field_after.ensures in
    wrong_number t d c.if-defaults-ne219.false marked short _ checked (error_done c.from_residual.result c.from_residual.ensures.1 c.in_err-check_number.ensures)

pub returns-then-not-is_mobile : goal.returns-then-not-is_mobile
returns-then-not-is_mobile c =
    let t = c.args.line.now in
    let d = c.args.defaults.now in
    let marked : is_carriage_line t ≡ true = sym (c.is_marked.ensures ∙ marks_are t) ∙ c.if-not-is_marked.false in
    let short : none_longer own_places (own_fields t) ≡ true = sym c.fields_fit.ensures ∙ c.if-not-fields_fit.false in
    let checked = c.in_ok-check_number.ensures ∙ ap (λ (x : List ℕ). first_refusal (number_tests x)) c.field_after.ensures in
    let right = none_told checked in
    not-mobile t d c.if-defaults-ne219.false marked short right (sym c.is_mobile.ensures ∙ c.if-not-is_mobile.true)

pub returns : goal.returns
returns c =
    let t = c.args.line.now in
    let d = c.args.defaults.now in
    let marked : is_carriage_line t ≡ true = sym (c.is_marked.ensures ∙ marks_are t) ∙ c.if-not-is_marked.false in
    let short : none_longer own_places (own_fields t) ≡ true = sym c.fields_fit.ensures ∙ c.if-not-fields_fit.false in
    let checked = c.in_ok-check_number.ensures ∙ ap (λ (x : List ℕ). first_refusal (number_tests x)) c.field_after.ensures in
    let right = none_told checked in
    all_given t d c.if-defaults-ne219.false marked short right (sym c.is_mobile.ensures ∙ c.if-not-is_mobile.false)
