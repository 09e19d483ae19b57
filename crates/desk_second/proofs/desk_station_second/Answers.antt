-- `desk_second::desk_station_second` meets its contract.
use mathlib.Core.Path.{ap, ◌∙◌}
use Rattle.answers.proofs.EndingLaws.{answered}
use Rattle.flaws.specs.Flaws.{flaw_number}
use Rattle.flaws.specs.declared.Flaw.{Flaw}
use Rattle.desk_second.proofs.desk_station_second.Goals as goal

pub returns : goal.returns
returns c =
    (answered c.answer.ensures c.explain_second-told.ensures.0, c.flaw_number.ensures ∙ ap (λ (x : Flaw). flaw_number x) c.explain_second-told.ensures.1)
