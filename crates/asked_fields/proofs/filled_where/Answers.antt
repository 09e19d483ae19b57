-- `asked_fields::filled_where` meets its contract.
use Rattle.asked_fields.proofs.filled_where.Goals as goal

pub returns-then-x : goal.returns-then-x
returns-then-x c = rw (c.if-x.true, c.is_filled.ensures)
