-- `asked_fields::is_filled` meets its contract.
use mathlib.Core.Path.{ap}
use mathlib.Core.Bool.{not}
use Rattle.asked_fields.proofs.is_filled.Goals as goal

pub returns : goal.returns
returns c = ap not c.is_blank_stepwise.ensures
