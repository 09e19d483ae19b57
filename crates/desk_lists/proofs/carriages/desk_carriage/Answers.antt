-- `desk_lists::carriages::desk_carriage` meets its contract.
use Rattle.answers.proofs.EndingLaws.{answered}
use Rattle.desk_lists.proofs.carriages.desk_carriage.Goals as goal

pub returns : goal.returns
returns c =
    (answered c.answer.ensures c.carriage_to_record.ensures.0, c.carriage_to_record.ensures.1)
