-- `serials::fits_serial` meets its contract, by its two cases.
use Rattle.serials.specs.Serials.{serial_fits}
use Rattle.serials.proofs.fits_serial.Goals as goal

pub returns-in-None : goal.returns-in-None
unfolding serial_fits
returns-in-None c = rw c.in-None.is

pub returns-in-Some : goal.returns-in-Some
unfolding serial_fits
returns-in-Some c = rw c.in-Some.is c.fits_whole.ensures
