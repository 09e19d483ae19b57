-- `symbol_flaws::antenna_flaw` meets its contract.
use mathlib.Core.Path.{refl, sym, ◌∙◌}
use Rattle.flaw_parts.proofs.SplitLaws.{kept, broken}
use Rattle.symbol_flaws.proofs.AdmittedLetters.{antenna_letters}
use Rattle.symbol_flaws.proofs.antenna_flaw.Goals as goal

pub returns-then-is_antenna : goal.returns-then-is_antenna
returns-then-is_antenna c = kept 22 _ (sym c.is_antenna.ensures ∙ c.if-is_antenna.true) refl

pub returns : goal.returns
returns c = c.unread_of.ensures ∙ antenna_letters _ ∙ broken 22 _ (sym c.is_antenna.ensures ∙ c.if-is_antenna.false)
