-- `serials::is_serial` meets its contract, by the answer of the reader that it calls.
use Rattle.serials.specs.Serials.{serial_good}
use Rattle.serials.proofs.is_serial.Goals as goal

pub returns : goal.returns
unfolding serial_good
returns c = rw (c.is_ok.ensures.value, c.read_whole.ensures)
