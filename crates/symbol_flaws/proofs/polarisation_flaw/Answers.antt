-- `symbol_flaws::polarisation_flaw` meets its contract.
use mathlib.Core.Path.{refl, sym, ◌∙◌}
use mathlib.Core.List.{[], ◌∷◌}
use Rattle.flaw_parts.proofs.SplitLaws.{kept, broken}
use Rattle.symbol_flaws.proofs.AdmittedLetters.{choice_letters}
use Rattle.symbol_flaws.proofs.polarisation_flaw.Goals as goal

pub returns-then-is_polarisation : goal.returns-then-is_polarisation
returns-then-is_polarisation c = kept 19 _ (sym c.is_polarisation.ensures ∙ c.if-is_polarisation.true) refl

pub returns : goal.returns
returns c = c.unread_of.ensures ∙ choice_letters ("H " ∷ "V " ∷ "SR" ∷ "SL" ∷ "CR" ∷ "CL" ∷ "D " ∷ "M " ∷ []) _ ∙ broken 19 _ (sym c.is_polarisation.ensures ∙ c.if-is_polarisation.false)
