-- `desk_records::records::desk_header_code` meets its contract.
use Rattle.answers.proofs.EndingLaws.{answered}
use Rattle.desk_records.proofs.records.desk_header_code.Goals as goal

pub returns : goal.returns
returns c = answered c.answer.ensures c.check_header.ensures
