-- `standing::same_height` meets its contract: the counts of metres.
use Rattle.numerals.proofs.Signs.{in_bits}
use Rattle.standing.proofs.same_height.Goals as goal

pub returns : goal.returns
returns c =
    rw (in_bits c.args.a.0 c.struct_told-1.given.0.1, in_bits c.args.b.0 c.struct_told-2-1.given.0.1) at c.same_count.ensures
