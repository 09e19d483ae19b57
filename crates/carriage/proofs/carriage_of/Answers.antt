-- `carriage::carriage_of` meets its contract: four values changed, all else as it was.
use Rattle.carriage.specs.Building.{carriage_of}
use Rattle.carriage.proofs.carriage_of.Goals as goal

pub returns : goal.returns
unfolding carriage_of
returns c = rw c.name_of-name.ensures
