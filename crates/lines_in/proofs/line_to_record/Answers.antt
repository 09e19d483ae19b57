-- `lines_in::line_to_record` meets its contract: it is refused for the first reason, or its station is filed.
use mathlib.Core.Path.{◌≡◌, sym, ap, ◌∙◌}
use Rattle.basics.proofs.RefusalLaws.{ok-done, done_is}
use Rattle.station.specs.Codes.{value_of, station_code}
use Rattle.semicolons.specs.Lines.{record_of}
use Rattle.lists.proofs.Reading.{line_code, line_value}
use Rattle.lists.proofs.RecordLaws.{not_the_length, line_refused, line-filed}
use borrow.Author.Rules.{rules}
use Rattle.lines_in.proofs.line_to_record.Goals as goal

pub returns-then-out-ne219 : goal.returns-then-out-ne219
returns-then-out-ne219 c = not_the_length c.args.line.now c.args.out.now c.if-out-ne219.true

pub put_respelled-requires : goal.put_respelled-requires
put_respelled-requires c =
    let done = sym (c.is_ok.ensures.value ∙ ok-done _) ∙ c.if-is_ok.true in
    let code : station_code (record_of c.args.line.now) ≡ 0 = line_code c.args.line.now (sym c.record_in-outcome.ensures.0 ∙ done_is _ done) in
    (search rules, c.if-out-ne219.false, ap station_code (c.record_in-outcome.ensures.1 done) ∙ code)

pub returns-then-is_ok : goal.returns-then-is_ok
returns-then-is_ok c =
    let done = sym (c.is_ok.ensures.value ∙ ok-done _) ∙ c.if-is_ok.true in
    let value = ap value_of (c.record_in-outcome.ensures.1 done) ∙ sym (line_value c.args.line.now (sym c.record_in-outcome.ensures.0 ∙ done_is _ done)) in
    line-filed c.args.line.now c.args.out.now c.if-out-ne219.false _ c.record_in-outcome.ensures.0 done _ value _ c.put_respelled.ensures

pub returns-else-is_ok : goal.returns-else-is_ok
returns-else-is_ok c =
    line_refused c.args.line.now c.args.out.now c.if-out-ne219.false _ c.record_in-outcome.ensures.0 (sym (c.is_ok.ensures.value ∙ ok-done _) ∙ c.if-is_ok.false)
