-- `symbol_flaws::country_flaw` meets its contract.
use mathlib.Core.Path.{refl, sym, ◌∙◌}
use Rattle.flaw_parts.proofs.SplitLaws.{kept, broken}
use Rattle.symbol_flaws.proofs.AdmittedLetters.{country_letters}
use Rattle.symbol_flaws.proofs.country_flaw.Goals as goal

pub returns-then-is_country : goal.returns-then-is_country
returns-then-is_country c = kept 10 _ (sym c.is_country.ensures ∙ c.if-is_country.true) refl

pub returns : goal.returns
returns c = c.unread_of.ensures ∙ country_letters _ ∙ broken 10 _ (sym c.is_country.ensures ∙ c.if-is_country.false)
