-- `forms::readers::found` meets its contract.
use mathlib.Core.Path.{◌∙◌}
use Rattle.forms.proofs.ReaderLaws.{found_behind}
use Rattle.forms.proofs.readers.found.Goals as goal

pub returns : goal.returns
returns c = c.number.ensures ∙ found_behind _ _ c.behind.ensures
