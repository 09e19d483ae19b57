-- `header_judging::header_code` meets its contract: the second group is judged where the first breaks no rule.
use mathlib.Core.Path.{sym, ◌∙◌}
use lib.ListN.{take, drop}
use Rattle.basics.proofs.RuleLaws.{to_next, from_first}
use Rattle.header.specs.Places.{header_fields}
use Rattle.header.specs.Rules.{header_rules}
use Rattle.header.specs.Codes.{header_code}
use borrow.Author.Rules.{rules}
use Rattle.header_judging.proofs.header_code.Goals as goal

pub returns-then-code-ne0 : goal.returns-then-code-ne0
unfolding header_code header_rules
returns-then-code-ne0 c =
    let rules = header_rules (header_fields c.args.rec.now) in
    from_first 0 (take 7 rules) (drop 7 rules) c.sender_code-code.ensures c.if-code-ne0.true

pub returns : goal.returns
unfolding header_code header_rules
returns c =
    let rules = header_rules (header_fields c.args.rec.now) in
    c.closing_code.ensures ∙ sym (to_next 0 (take 7 rules) (drop 7 rules) c.sender_code-code.ensures c.if-code-ne0.false)
