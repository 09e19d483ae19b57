-- `columns::sets::is_hex` meets its contract: its two runs of bytes.
use Rattle.columns.specs.Sets.{is_hex}
use Rattle.columns.proofs.sets.is_hex.Goals as goal

pub returns : goal.returns
unfolding is_hex
returns c = rw (c.is_digit.ensures, c.is_between.ensures)
