-- `symbol_flaws::name_flaw` meets its contract.
use mathlib.Core.Path.{refl, sym, ◌∙◌}
use Rattle.flaw_parts.proofs.SplitLaws.{kept, broken}
use Rattle.symbol_flaws.proofs.AdmittedLetters.{name_set}
use Rattle.symbol_flaws.proofs.name_flaw.Goals as goal

pub returns-then-is_station_name : goal.returns-then-is_station_name
returns-then-is_station_name c = kept 9 _ (sym c.is_station_name.ensures ∙ c.if-is_station_name.true) refl

pub returns : goal.returns
returns c = c.unread_in.ensures ∙ name_set _ ∙ broken 9 _ (sym c.is_station_name.ensures ∙ c.if-is_station_name.false)
