-- `distances::is_whole_filled` meets its contract: the answer is told of what was read.
use mathlib.Core.Path.{ap, ◌∙◌}
use Rattle.numerals.specs.Numbers.{whole_filled}
use Rattle.distances.proofs.is_whole_filled.Goals as goal

pub returns : goal.returns
returns c = c.says_number.ensures ∙ ap whole_filled c.read_whole.ensures
