-- `distances::read_radius` meets its contract: the number is what was read.
use Rattle.distances.specs.Distances.{radius_of}
use Rattle.distances.proofs.read_radius.Goals as goal

pub returns : goal.returns
unfolding radius_of
returns c = rw (c.amount_of.ensures, c.read_whole.ensures)
