-- `symbol_flaws::reference_flaw` meets its contract.
use mathlib.Core.Path.{refl, sym, ◌∙◌}
use Rattle.flaw_parts.proofs.SplitLaws.{kept, broken}
use Rattle.symbol_flaws.proofs.AdmittedLetters.{reference-set}
use Rattle.symbol_flaws.proofs.reference_flaw.Goals as goal

pub returns-then-is_reference : goal.returns-then-is_reference
returns-then-is_reference c = kept 30 _ (sym c.is_reference.ensures ∙ c.if-is_reference.true) refl

pub returns : goal.returns
returns c = c.unread_in.ensures ∙ reference-set _ ∙ broken 30 _ (sym c.is_reference.ensures ∙ c.if-is_reference.false)
