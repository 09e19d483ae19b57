-- `number_flaws::whole_flaw` meets its contract.
use mathlib.Core.Path.{refl, sym, ◌∙◌}
use Rattle.flaw_parts.proofs.SplitLaws.{kept, broken}
use Rattle.numerals.proofs.Letters.{plain-whole}
use Rattle.number_flaws.proofs.whole_flaw.Goals as goal

pub returns-then-is_whole_filled : goal.returns-then-is_whole_filled
returns-then-is_whole_filled c = kept 12 _ (sym c.is_whole_filled.ensures ∙ c.if-is_whole_filled.true) refl

pub returns : goal.returns
returns c = c.unread_of.ensures ∙ plain-whole _ ∙ broken 12 _ (sym c.is_whole_filled.ensures ∙ c.if-is_whole_filled.false)
