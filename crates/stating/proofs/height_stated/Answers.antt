-- `stating::height_stated` meets its contract.
use mir.Facts.{to_z-of_z}
use borrow.Author.Tests.{ne_eqb}
use Rattle.stating.specs.Stating.{height_stated}
use Rattle.stating.proofs.height_stated.Goals as goal

pub returns-then-filled-eq0 : goal.returns-then-filled-eq0
unfolding height_stated
returns-then-filled-eq0 c = rw c.if-filled-eq0.true

pub returns-else-filled-eq0 : goal.returns-else-filled-eq0
unfolding height_stated
returns-else-filled-eq0 c = rw (ne_eqb c.args.filled 0 c.if-filled-eq0.false, to_z-of_z c.ranges.metres)
