-- `desk_records::records::desk_respell_station` meets its contract.
use Rattle.answers.proofs.EndingLaws.{answered_leaving}
use Rattle.desk_records.proofs.records.desk_respell_station.Goals as goal

pub returns : goal.returns
returns c = answered_leaving c.answer.ensures c.respell_station.ensures
