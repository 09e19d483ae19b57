-- `typed_lines::write_line` meets its contract: it is refused for a broken rule, or its record is written as a line.
use mathlib.Core.Path.{sym, ap, ◌∙◌}
use Rattle.station.specs.declared.Station.{Station}
use Rattle.lists.specs.Calls.{write_line_outcome, line_length, written_line}
use Rattle.lists.proofs.RoundTrip.{spelled_own}
use Rattle.lists.proofs.CallLaws.{rule_broken}
use borrow.Author.Rules.{rules}
use Rattle.typed_lines.proofs.write_line.Goals as goal

pub returns-then-code-ne0 : goal.returns-then-code-ne0
returns-then-code-ne0 c =
    rule_broken c.args.s c.args.buffer.now _ c.typed_code-code.ensures c.if-code-ne0.true

pub write_spelled-requires : goal.write_spelled-requires
write_spelled-requires c =
    let own = spelled_own c.args.s (sym c.typed_code-code.ensures ∙ c.if-code-ne0.false) _ c.put_station.ensures in
    (search rules, own.0, own.1)

pub returns : goal.returns
returns c =
    let own = spelled_own c.args.s (sym c.typed_code-code.ensures ∙ c.if-code-ne0.false) _ c.put_station.ensures in (
      c.write_spelled.ensures.0 ∙ ap (λ (s : Station). write_line_outcome s c.args.buffer.now) own.2,
      c.write_spelled.ensures.1 ∙ ap (λ (s : Station). line_length s c.args.buffer.now) own.2,
      c.write_spelled.ensures.2 ∙ ap (λ (s : Station). written_line s c.args.buffer.now) own.2,
    )
