-- `asked_fields::round_where` meets its contract.
use mathlib.Core.Bool.{not-not}
use Rattle.asked_fields.proofs.round_where.Goals as goal

pub returns-then-x : goal.returns-then-x
returns-then-x c = rw (c.if-x.true, not-not) c.is_round.ensures
