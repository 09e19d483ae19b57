-- `arcs::is_up_to` meets its contract: both tests are told of what was read.
use Rattle.arcs.proofs.is_up_to.Goals as goal

pub returns-then-says_number : goal.returns-then-says_number
returns-then-says_number c = rw (← c.says_number.ensures, c.if-says_number.true, c.amount_of.ensures)
