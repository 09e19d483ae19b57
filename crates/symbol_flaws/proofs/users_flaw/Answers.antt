-- `symbol_flaws::users_flaw` meets its contract.
use mathlib.Core.Path.{refl, sym, ◌∙◌}
use Rattle.flaw_parts.proofs.SplitLaws.{kept, broken}
use Rattle.symbol_flaws.proofs.AdmittedLetters.{user_letters}
use Rattle.symbol_flaws.proofs.users_flaw.Goals as goal

pub returns-then-is_users : goal.returns-then-is_users
returns-then-is_users c = kept 6 _ (sym c.is_users.ensures ∙ c.if-is_users.true) refl

pub returns : goal.returns
returns c = c.unread_of.ensures ∙ user_letters _ ∙ broken 6 _ (sym c.is_users.ensures ∙ c.if-is_users.false)
