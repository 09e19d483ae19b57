-- `desk_records::records::desk_set_elevation` meets its contract.
use mir.Facts.{to_z-of_z}
use Rattle.station.specs.Setting.{with_elevation}
use Rattle.answers.proofs.EndingLaws.{answered_leaving}
use Rattle.desk_records.proofs.StatedLaws.{value_stated}
use Rattle.desk_records.proofs.records.desk_set_elevation.Goals as goal

pub returns : goal.returns
returns c =
    let stated = rw (to_z-of_z c.ranges.tenths) at c.tenths_stated.ensures in
    answered_leaving c.answer.ensures (value_stated with_elevation stated c.args.rec.now c.change_elevation.ensures)
