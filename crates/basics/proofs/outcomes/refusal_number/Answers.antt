-- `basics::outcomes::refusal_number` meets its contract.
use Rattle.basics.specs.Outcomes.{refusal}
use Rattle.basics.proofs.outcomes.refusal_number.Goals as goal

pub returns-in-Ok : goal.returns-in-Ok
unfolding refusal
returns-in-Ok c = rw c.in-Ok.is

pub returns-in-Err : goal.returns-in-Err
unfolding refusal
returns-in-Err c = rw (c.in-Err.is, c.from.ensures)
