-- `changing::change_power` meets its contract.
use Rattle.station.specs.Setting.{with_power}
use Rattle.changing.proofs.ChangeLaws.{may_put, settled_record}
use Rattle.changing.proofs.change_power.Goals as goal

pub settle_record-requires : goal.settle_record-requires
settle_record-requires c =
    may_put (λ s. with_power s c.args.v) c.args.rec.now c.read_station-read.result c.set_power.result c.read_station-read.ensures c.set_power.ensures

pub returns : goal.returns
returns c =
    settled_record (λ s. with_power s c.args.v) c.args.rec.now c.read_station-read.result c.set_power.result c.read_station-read.ensures c.set_power.ensures c.settle_record.ensures
