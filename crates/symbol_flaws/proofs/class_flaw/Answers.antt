-- `symbol_flaws::class_flaw` meets its contract.
use mathlib.Core.Path.{refl, sym, ◌∙◌}
use mathlib.Core.List.{[], ◌∷◌}
use Rattle.flaw_parts.proofs.SplitLaws.{kept, broken}
use Rattle.symbol_flaws.proofs.AdmittedLetters.{choice_letters}
use Rattle.symbol_flaws.proofs.class_flaw.Goals as goal

pub returns-then-is_class : goal.returns-then-is_class
returns-then-is_class c = kept 4 _ (sym c.is_class.ensures ∙ c.if-is_class.true) refl

pub returns : goal.returns
returns c = c.unread_of.ensures ∙ choice_letters ("FB" ∷ "FL" ∷ "ML" ∷ []) _ ∙ broken 4 _ (sym c.is_class.ensures ∙ c.if-is_class.false)
