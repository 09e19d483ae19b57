-- `tenths::read_tenths` meets its contract, by the answer of the reader that it calls.
use Rattle.formats.specs.Tenths.{tenths_of}
use Rattle.tenths.proofs.read_tenths.Goals as goal

pub returns : goal.returns
unfolding tenths_of
returns c = rw (c.unwrap_or.ensures, c.read_decimal.ensures)
