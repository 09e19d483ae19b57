-- `padding::side_after` meets its contract.
use mathlib.Core.Path.{refl}
use Rattle.padding.proofs.side_after.Goals as goal

pub returns : goal.returns
returns c = refl
