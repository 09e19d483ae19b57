-- `forms::readers::lowest` meets its contract.
use mathlib.Core.Path.{◌∙◌}
use Rattle.forms.proofs.ReaderLaws.{lowest_behind}
use Rattle.forms.proofs.readers.lowest.Goals as goal

pub returns : goal.returns
returns c = c.number.ensures ∙ lowest_behind _ _ c.behind.ensures
