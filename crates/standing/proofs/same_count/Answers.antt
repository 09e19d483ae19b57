-- `standing::same_count` meets its contract: the bits are compared.
use Rattle.standing.proofs.SameLaws.{bits_same}
use Rattle.standing.proofs.same_count.Goals as goal

pub returns : goal.returns
returns c = bits_same c.args.a c.args.b c.ranges.a c.ranges.b
