-- `between::is_round` meets its contract.
use Rattle.station_groups.specs.Asked.{round_antenna}
use Rattle.between.proofs.is_round.Goals as goal

pub returns : goal.returns
unfolding round_antenna
returns c = c.equal.ensures
