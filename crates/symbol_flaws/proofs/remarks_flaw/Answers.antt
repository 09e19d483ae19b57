-- `symbol_flaws::remarks_flaw` meets its contract.
use mathlib.Core.Path.{refl, sym, ◌∙◌}
use Rattle.flaw_parts.proofs.SplitLaws.{kept, broken}
use Rattle.symbol_flaws.proofs.remarks_flaw.Goals as goal

pub returns-then-is_remarks : goal.returns-then-is_remarks
returns-then-is_remarks c = kept 26 _ (sym c.is_remarks.ensures ∙ c.if-is_remarks.true) refl

pub returns : goal.returns
returns c = c.unread_in.ensures ∙ broken 26 _ (sym c.is_remarks.ensures ∙ c.if-is_remarks.false)
