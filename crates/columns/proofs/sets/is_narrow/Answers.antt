-- `columns::sets::is_narrow` meets its contract: letters, digits, or the hyphen.
use Rattle.columns.specs.Sets.{is_narrow}
use Rattle.columns.proofs.sets.is_narrow.Goals as goal

pub returns : goal.returns
unfolding is_narrow
returns c = rw (c.is_upper.ensures, c.is_digit.ensures)
