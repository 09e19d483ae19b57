-- `operator_pages::no_rows` meets its contract: a hundred blank rows.
use mathlib.Core.Path.{refl}
use Rattle.operator_pages.specs.Calls.{filled_up, paged}
use Rattle.operator_pages.proofs.no_rows.Goals as goal

pub returns : goal.returns
unfolding paged filled_up
returns c = refl
