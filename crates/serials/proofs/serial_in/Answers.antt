-- `serials::serial_in` meets its contract, by the answer of the reader that it calls.
use Rattle.serials.specs.Serials.{serial_of}
use Rattle.serials.proofs.serial_in.Goals as goal

pub returns : goal.returns
unfolding serial_of
returns c = rw (c.unwrap_or.ensures, c.read_whole.ensures)
