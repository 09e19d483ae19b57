-- `symbol_flaws::service_flaw` meets its contract.
use mathlib.Core.Path.{refl, sym, ◌∙◌}
use mathlib.Core.List.{[], ◌∷◌}
use Rattle.flaw_parts.proofs.SplitLaws.{kept, broken}
use Rattle.symbol_flaws.proofs.AdmittedLetters.{choice_letters}
use Rattle.symbol_flaws.proofs.service_flaw.Goals as goal

pub returns-then-is_service : goal.returns-then-is_service
returns-then-is_service c = kept 5 _ (sym c.is_service.ensures ∙ c.if-is_service.true) refl

pub returns : goal.returns
returns c = c.unread_of.ensures ∙ choice_letters ("CO" ∷ "CP" ∷ "CR" ∷ "CV" ∷ "OT" ∷ []) _ ∙ broken 5 _ (sym c.is_service.ensures ∙ c.if-is_service.false)
