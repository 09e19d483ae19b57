-- `columns::texts::is_blank_stepwise` meets its contract: nothing is left after the spaces.
use mathlib.Core.Path.{sym}
use Rattle.columns.proofs.TextLaws.{ended-drop}
use Rattle.columns.proofs.texts.is_blank_stepwise.Goals as goal

pub returns : goal.returns
returns c = rw c.spaces.ensures.1 (sym (ended-drop _ _ c.spaces.ensures.0))
