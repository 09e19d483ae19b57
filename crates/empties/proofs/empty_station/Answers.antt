-- `empties::empty_station` meets its contract: it is the empty station, field by field.
use mathlib.Core.Path.{refl}
use Rattle.station.specs.Values.{empty_station}
use Rattle.empties.proofs.empty_station.Goals as goal

pub returns : goal.returns
unfolding empty_station
returns c = refl
