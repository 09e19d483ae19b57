-- `desk_locating::desk_show` meets its contract: two zeros, or where the field stands.
use mathlib.Core.Path.{ap, ◌∙◌}
use Rattle.basics.specs.Outcomes.{refusal, Outcome}
use Rattle.basics.proofs.RefusalLaws.{went_on, stopped}
use Rattle.desk_locating.proofs.ShownLaws.{placed, located_not, located_there}
use native.Mathlib.Omega.{arith}
use Rattle.desk_locating.proofs.desk_show.Goals as goal

pub returns-then-is_err : goal.returns-then-is_err
returns-then-is_err c =
    located_not c.args.file.now c.args.number c.args.field (c.refusal_number.ensures ∙ ap (λ (o : Outcome). refusal o) c.show_outcome-outcome.ensures) (stopped c.show_outcome-outcome.ensures c.is_err.ensures.value c.if-is_err.true)

pub overflow_sub-before : goal.overflow_sub-before
overflow_sub-before c =
    let h = placed c.args.file.now c.args.number c.args.field c.field_place-place.ensures (went_on c.show_outcome-outcome.ensures c.is_err.ensures.value c.if-is_err.false) in
    omega (arith, h.0)

pub overflow_mul-offset : goal.overflow_mul-offset
overflow_mul-offset c =
    let h = placed c.args.file.now c.args.number c.args.field c.field_place-place.ensures (went_on c.show_outcome-outcome.ensures c.is_err.ensures.value c.if-is_err.false) in
    omega (arith, h.1, h.2)

pub overflow_add-offset : goal.overflow_add-offset
overflow_add-offset c =
    let h = placed c.args.file.now c.args.number c.args.field c.field_place-place.ensures (went_on c.show_outcome-outcome.ensures c.is_err.ensures.value c.if-is_err.false) in
    omega (arith, h.0, h.1, h.2)

pub returns : goal.returns
returns c =
    located_there c.args.file.now c.args.number c.args.field c.field_place-place.ensures (went_on c.show_outcome-outcome.ensures c.is_err.ensures.value c.if-is_err.false)
