-- `changing::change_elevation` meets its contract.
use Rattle.station.specs.Setting.{with_elevation}
use Rattle.changing.proofs.ChangeLaws.{may_put, settled_record}
use Rattle.changing.proofs.change_elevation.Goals as goal

pub settle_record-requires : goal.settle_record-requires
settle_record-requires c =
    may_put (λ s. with_elevation s c.args.v) c.args.rec.now c.read_station-read.result c.set_elevation.result c.read_station-read.ensures c.set_elevation.ensures

pub returns : goal.returns
returns c =
    settled_record (λ s. with_elevation s c.args.v) c.args.rec.now c.read_station-read.result c.set_elevation.result c.read_station-read.ensures c.set_elevation.ensures c.settle_record.ensures
