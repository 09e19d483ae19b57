-- `wording::field_name` meets its contract: the name ends in no space, so that it is what is left of it with spaces behind it.
use Rattle.wording.specs.Words.{name_at}
use Rattle.wording.proofs.NameLaws.{padding_off, name_whole}
use Rattle.wording.proofs.field_name.Goals as goal

pub returns : goal.returns
returns c = padding_off 10 _ _ (name_at c.args.k) c.padded.ensures c.field_text.ensures.upper_bound c.field_text.ensures.value (name_whole c.args.k)
