-- `desk_lists::listing::desk_list_out` meets its contract.
use mathlib.Core.Path.{◌∙◌}
use Rattle.answers.proofs.EndingLaws.{answered}
use Rattle.desk_lists.proofs.listing.desk_list_out.Goals as goal

pub returns : goal.returns
returns c =
    (answered c.answer.ensures (c.ended.ensures ∙ c.record_to_line-written.ensures.0), c.record_to_line-written.ensures.2, c.unwrap_or.ensures ∙ c.record_to_line-written.ensures.1)
