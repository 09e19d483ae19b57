-- `number_flaws::position_flaw` meets its contract: each arm is the flaw that the answer brings.
use mathlib.Core.Path.{sym, ◌∙◌}
use Rattle.number_flaws.proofs.AnswerLaws.{place_flaw_lem}
use Rattle.number_flaws.proofs.position_flaw.Goals as goal

pub returns-in-Err : goal.returns-in-Err
returns-in-Err c = place_flaw_lem _ _ (sym c.read_position.ensures ∙ c.in-Err.is)

pub returns-in-Ok : goal.returns-in-Ok
returns-in-Ok c = place_flaw_lem _ _ (sym c.read_position.ensures ∙ c.in-Ok.is)
