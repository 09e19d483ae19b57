-- `typed_lines::read_line` meets its contract: it is refused for the first reason, or read as its record is.
use mathlib.Core.Path.{sym, ◌∙◌}
use Rattle.lists.proofs.CallLaws.{not_a_line, long_field, record_read}
use Rattle.typed_lines.proofs.read_line.Goals as goal

pub returns-then-not-is_line : goal.returns-then-not-is_line
returns-then-not-is_line c =
    let refused = not_a_line c.args.line.now (sym c.is_line.ensures ∙ c.if-not-is_line.true) in
    (refused.0, c.empty_station.ensures ∙ refused.1)

pub returns-then-not-put_fields : goal.returns-then-not-put_fields
returns-then-not-put_fields c =
    let refused = long_field c.args.line.now (sym c.is_line.ensures ∙ c.if-not-is_line.false) (sym c.put_fields.ensures.value ∙ c.if-not-put_fields.true) in
    (refused.0, c.empty_station-then-not-put_fields.ensures ∙ refused.1)

pub returns : goal.returns
returns c =
    let line = c.args.line.now in
    let all = c.if-not-put_fields.false in
    record_read line (sym c.is_line.ensures ∙ c.if-not-is_line.false) (sym c.put_fields.ensures.value ∙ all) _ (c.put_fields.ensures.rec_after all) _ _ c.read_station-read.ensures.0 c.read_station-read.ensures.1
