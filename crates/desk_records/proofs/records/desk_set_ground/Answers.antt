-- `desk_records::records::desk_set_ground` meets its contract.
use mir.Facts.{to_z-of_z}
use Rattle.answers.proofs.EndingLaws.{answered_leaving}
use Rattle.desk_records.proofs.records.desk_set_ground.Goals as goal

pub returns : goal.returns
returns c =
    answered_leaving c.answer.ensures (rw (to_z-of_z c.ranges.metres) at c.change_ground.ensures)
