-- `empties::empty_header` meets its contract: it is the empty header, field by field.
use mathlib.Core.Path.{refl}
use Rattle.header.specs.Values.{empty_header}
use Rattle.empties.proofs.empty_header.Goals as goal

pub returns : goal.returns
unfolding empty_header
returns c = refl
