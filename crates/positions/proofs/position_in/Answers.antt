-- `positions::position_in` meets its contract: where the rule holds, a position is what was read.
use Rattle.positions.specs.Positions.{located_of}
use Rattle.positions.proofs.position_in.Goals as goal

pub unwrap-requires : goal.unwrap-requires
unfolding located_of
unwrap-requires c = rw (c.read_position.ensures, c.requires)

pub returns : goal.returns
unfolding located_of
returns c = let e = rw (c.read_position.ensures, c.requires) at c.unwrap.ensures in cc
