-- `standing::same_place` meets its contract: two that say none, or two positions.
use Rattle.standing.specs.Standing.{same_place}
use Rattle.standing.proofs.same_place.Goals as goal

pub returns-in-Ok-b : goal.returns-in-Ok-b
unfolding same_place
returns-in-Ok-b c = rw (c.in-Ok.is, c.in-Ok-b.is) c.same_position.ensures

pub returns-in-Err-b : goal.returns-in-Err-b
unfolding same_place
returns-in-Err-b c = rw (c.in-Ok.is, c.in-Err-b.is)

pub returns-in-Err : goal.returns-in-Err
unfolding same_place
returns-in-Err c = rw (c.in-Err.is, c.is_err.ensures.value)
