-- `standing::same_position` meets its contract: east, then north.
use mathlib.Core.Path.{◌≡◌}
use Rattle.numerals.proofs.Signs.{in_bits}
use Rattle.standing.specs.Standing.{same_count}
use Rattle.standing.proofs.same_position.Goals as goal
use Rattle.standing.proofs.same_position.Goals.{After-same_count}

-- the counts to the east
east : (c : After-same_count) → c.same_count.result ≡ same_count c.args.a.east c.args.b.east
east c =
    rw (in_bits c.args.a.east c.struct_told-1.given.0.1, in_bits c.args.b.east c.struct_told-2-1.given.0.1) at c.same_count.ensures

pub returns-then-same_count : goal.returns-then-same_count
returns-then-same_count c =
    let north : c.same_count-then-same_count.result ≡ same_count c.args.a.north c.args.b.north =
    rw (in_bits c.args.a.north c.struct_told-then-same_count-1.given.1.0.1, in_bits c.args.b.north c.struct_told-then-same_count-2-1.given.1.0.1) at c.same_count-then-same_count.ensures in
    rw (← (east (goal.at.returns-then-same_count c).After-same_count), c.if-same_count.true) north

pub returns-else-same_count : goal.returns-else-same_count
returns-else-same_count c = rw (← (east (goal.at.returns-else-same_count c).After-same_count), c.if-same_count.false)
