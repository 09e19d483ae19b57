-- `desk_locating::desk_carriage_number` meets its contract.
use mathlib.Core.Path.{ap, sym, ◌∙◌}
use lib.ListN.{length}
use Rattle.desk_locating.proofs.NumberLaws.{none_held, one_held}
use Rattle.desk_locating.proofs.desk_carriage_number.Goals as goal

pub returns-then-n-eq0 : goal.returns-then-n-eq0
returns-then-n-eq0 c =
    let name = c.args.name.now in
    let found = ap length c.number_in-number.ensures.0 in
    (found, none_held name (sym found ∙ c.if-n-eq0.true))

pub returns-else-n-eq0 : goal.returns-else-n-eq0
returns-else-n-eq0 c =
    let name = c.args.name.now in
    let found = ap length c.number_in-number.ensures.0 in
    (found, one_held name (λ z. c.if-n-eq0.false (found ∙ z)))
