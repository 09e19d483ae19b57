-- `desk_lists::listing::desk_list_in` meets its contract.
use Rattle.answers.proofs.EndingLaws.{answered}
use Rattle.desk_lists.proofs.listing.desk_list_in.Goals as goal

pub returns : goal.returns
returns c =
    (answered c.answer.ensures c.line_to_record.ensures.0, c.line_to_record.ensures.1)
