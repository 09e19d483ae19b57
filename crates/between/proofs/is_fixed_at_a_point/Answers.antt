-- `between::is_fixed_at_a_point` meets its contract: rule 33, by what is asked of the two members.
use mathlib.Core.Path.{◌∙◌}
use Rattle.between.proofs.is_fixed_at_a_point.Goals as goal

pub returns : goal.returns
returns c = c.never_both.ensures ∙ rw c.is_mobile.ensures
