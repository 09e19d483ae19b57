-- `walking::parts::piece` meets its contract.
use mathlib.Core.Path.{◌∙◌}
use Rattle.walking.proofs.parts.piece.Goals as goal

pub returns-then-first-eq0 : goal.returns-then-first-eq0
returns-then-first-eq0 c = c.front.ensures ∙ rw c.if-first-eq0.true

pub returns : goal.returns
returns c = c.front-2.ensures ∙ rw c.behind.ensures
