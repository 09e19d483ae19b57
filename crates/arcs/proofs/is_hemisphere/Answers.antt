-- `arcs::is_hemisphere` meets its contract.
use mathlib.Core.Bool.{or-false}
use Rattle.arcs.proofs.is_hemisphere.Goals as goal

pub returns : goal.returns
returns c = rw or-false
