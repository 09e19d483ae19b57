-- `basics::rules::broken_from` meets its contract: the rules that were passed hold.
use mathlib.Core.Path.{sym, ◌∙◌}
use Rattle.basics.proofs.RuleLaws.{rule_on, rule_off, rule_end}
use Rattle.basics.proofs.rules.broken_from.Goals as goal

pub returns-then-not-holds : goal.returns-then-not-holds
returns-then-not-holds c =
    sym (c.loop-i.invariant ∙ rule_off _ _ _ c.loop-i-test.true c.if-not-holds.true)

pub loop-i-preserved : goal.loop-i-preserved
loop-i-preserved c =
    c.loop-i.invariant ∙ rule_on _ _ _ c.loop-i-test.true c.if-not-holds.false

pub returns : goal.returns
returns c = sym (c.loop-i.invariant ∙ rule_end _ _ _ c.loop-i-test.false)
