-- `basics::outcomes::code_with` meets its contract.
use Rattle.basics.specs.Outcomes.{code_with}
use Rattle.basics.proofs.outcomes.code_with.Goals as goal

pub returns-in-Ok : goal.returns-in-Ok
unfolding code_with
returns-in-Ok c = rw c.in-Ok.is

pub returns-in-Err : goal.returns-in-Err
unfolding code_with
returns-in-Err c = rw (c.in-Err.is, c.code_of.ensures)
