-- `desk_sheets::sheets::desk_judge` meets its contract.
use mathlib.Core.Path.{ap, ◌∙◌}
use Rattle.basics.specs.Outcomes.{refusal, Outcome}
use Rattle.desk_sheets.proofs.sheets.desk_judge.Goals as goal

pub returns : goal.returns
returns c =
    (c.refusal_number.ensures ∙ ap (λ (o : Outcome). refusal o) c.judge.ensures.0, c.judge.ensures.1)
