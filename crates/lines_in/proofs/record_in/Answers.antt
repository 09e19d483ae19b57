-- `lines_in::record_in` meets its contract: it is refused for the first reason, or ends as judging its record does.
use mathlib.Core.Path.{refl, sym, ◌∙◌}
use mathlib.Core.Bool.{false≢true}
use Rattle.basics.specs.Outcomes.{refusal}
use Rattle.lists.proofs.CallLaws.{not_a_line, long_field, record_read}
use Rattle.lines_in.proofs.record_in.Goals as goal

pub returns-then-not-is_line : goal.returns-then-not-is_line
unfolding refusal
returns-then-not-is_line c =
    let refused = not_a_line c.args.line.now (sym c.is_line.ensures ∙ c.if-not-is_line.true) in
    (refused.0, λ e. absurd (false≢true e))

pub returns-then-not-put_fields : goal.returns-then-not-put_fields
unfolding refusal
returns-then-not-put_fields c =
    let refused = long_field c.args.line.now (sym c.is_line.ensures ∙ c.if-not-is_line.false) (sym c.put_fields.ensures.value ∙ c.if-not-put_fields.true) in
    (refused.0, λ e. absurd (false≢true e))

pub returns : goal.returns
returns c =
    let line = c.args.line.now in
    let all = c.if-not-put_fields.false in
    let read = record_read line (sym c.is_line.ensures ∙ c.if-not-is_line.false) (sym c.put_fields.ensures.value ∙ all) _ (c.put_fields.ensures.rec_after all) _ _ c.check_station.ensures refl in
    (read.0, λ e. c.put_fields.ensures.rec_after all)
