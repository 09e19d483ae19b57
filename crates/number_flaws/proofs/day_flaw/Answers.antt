-- `number_flaws::day_flaw` meets its contract: each arm is the flaw that the answer brings.
use mathlib.Core.Path.{sym, ◌∙◌}
use Rattle.number_flaws.proofs.AnswerLaws.{day_flaw_lem}
use Rattle.number_flaws.proofs.day_flaw.Goals as goal

pub returns-in-Err : goal.returns-in-Err
returns-in-Err c = day_flaw_lem _ _ (sym c.read_date.ensures ∙ c.in-Err.is)

pub returns-in-Ok : goal.returns-in-Ok
returns-in-Ok c = day_flaw_lem _ _ (sym c.read_date.ensures ∙ c.in-Ok.is)
