-- `between::is_repeater_by_name` meets its contract: rule 39, by what is asked of the two members.
use mathlib.Core.Path.{◌∙◌}
use Rattle.between.proofs.is_repeater_by_name.Goals as goal

pub returns : goal.returns
returns c = c.never_both.ensures ∙ rw (c.equal.ensures, c.is_repeater_name.ensures)
