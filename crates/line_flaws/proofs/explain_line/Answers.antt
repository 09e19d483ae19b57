-- `line_flaws::explain_line` meets its contract: it is refused for the first reason, or explained as its record is.
use mathlib.Core.Path.{sym, ◌∙◌}
use Rattle.line_flaws.proofs.LineLaws.{no_line, line_long, line_explained}
use Rattle.line_flaws.proofs.explain_line.Goals as goal

pub returns-then-not-is_line : goal.returns-then-not-is_line
returns-then-not-is_line c = no_line _ (sym c.is_line.ensures ∙ c.if-not-is_line.true)

pub returns-then-not-put_fields : goal.returns-then-not-put_fields
returns-then-not-put_fields c =
    line_long _ (sym c.is_line.ensures ∙ c.if-not-is_line.false) (sym c.put_fields.ensures.value ∙ c.if-not-put_fields.true)

pub returns : goal.returns
returns c =
    let all = c.if-not-put_fields.false in
    line_explained _ (sym c.is_line.ensures ∙ c.if-not-is_line.false) (sym c.put_fields.ensures.value ∙ all) _ (c.put_fields.ensures.rec_after all) _ _ c.explain_station.ensures.0 c.explain_station.ensures.1
