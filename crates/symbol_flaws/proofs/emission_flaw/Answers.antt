-- `symbol_flaws::emission_flaw` meets its contract.
use mathlib.Core.Path.{refl, sym, ◌∙◌}
use Rattle.flaw_parts.proofs.SplitLaws.{kept, broken}
use Rattle.symbol_flaws.proofs.AdmittedLetters.{emission_letters}
use Rattle.symbol_flaws.proofs.emission_flaw.Goals as goal

pub returns-then-is_emission : goal.returns-then-is_emission
returns-then-is_emission c = kept 14 _ (sym c.is_emission.ensures ∙ c.if-is_emission.true) refl

pub returns : goal.returns
returns c = c.unread_of.ensures ∙ emission_letters _ ∙ broken 14 _ (sym c.is_emission.ensures ∙ c.if-is_emission.false)
