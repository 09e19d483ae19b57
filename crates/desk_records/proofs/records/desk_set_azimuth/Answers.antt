-- `desk_records::records::desk_set_azimuth` meets its contract.
use mir.Facts.{to_z-of_z}
use Rattle.station.specs.Setting.{with_azimuth}
use Rattle.answers.proofs.EndingLaws.{answered_leaving}
use Rattle.desk_records.proofs.StatedLaws.{value_stated}
use Rattle.desk_records.proofs.records.desk_set_azimuth.Goals as goal

pub returns : goal.returns
returns c =
    let stated = rw (to_z-of_z c.ranges.tenths) at c.tenths_stated.ensures in
    answered_leaving c.answer.ensures (value_stated with_azimuth stated c.args.rec.now c.change_azimuth.ensures)
