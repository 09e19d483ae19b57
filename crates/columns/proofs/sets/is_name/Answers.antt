-- `columns::sets::is_name` meets its contract: the text set, or the underscore.
use Rattle.columns.specs.Sets.{is_name}
use Rattle.columns.proofs.sets.is_name.Goals as goal

pub returns : goal.returns
unfolding is_name
returns c = rw c.is_text.ensures
