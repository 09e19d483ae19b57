-- `forms::readers::head_code` meets its contract.
use mathlib.Core.Path.{◌∙◌}
use Rattle.forms.proofs.ReaderLaws.{head-behind}
use Rattle.forms.proofs.readers.head_code.Goals as goal

pub returns : goal.returns
returns c = c.byte.ensures ∙ head-behind _ _ c.behind.ensures
