-- `header::typed::typed_header_code` meets its contract: the second group is judged where the first breaks no rule.
use mathlib.Core.Path.{sym, ◌∙◌}
use lib.ListN.{take, drop}
use Rattle.basics.proofs.RuleLaws.{to_next, from_first}
use Rattle.header.specs.Rules.{typed_header_rules}
use Rattle.header.specs.Codes.{typed_header_code}
use borrow.Author.Rules.{rules}
use Rattle.header.proofs.typed.typed_header_code.Goals as goal

pub returns-then-code-ne0 : goal.returns-then-code-ne0
unfolding typed_header_code typed_header_rules
returns-then-code-ne0 c =
    let rules = typed_header_rules c.args.h in
    from_first 0 (take 7 rules) (drop 7 rules) c.typed_sender_code-code.ensures c.if-code-ne0.true

pub returns : goal.returns
unfolding typed_header_code typed_header_rules
returns c =
    let rules = typed_header_rules c.args.h in
    c.typed_closing_code.ensures ∙ sym (to_next 0 (take 7 rules) (drop 7 rules) c.typed_sender_code-code.ensures c.if-code-ne0.false)
