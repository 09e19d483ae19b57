-- `desk_records::records::desk_station_kind` meets its contract.
use mathlib.Core.Path.{ap, ◌∙◌}
use Rattle.answers.proofs.EndingLaws.{answered}
use Rattle.flaws.specs.Flaws.{flaw_number}
use Rattle.flaws.specs.declared.Flaw.{Flaw}
use Rattle.desk_records.proofs.records.desk_station_kind.Goals as goal

pub returns : goal.returns
returns c =
    (answered c.answer.ensures c.explain_station-told.ensures.0, c.flaw_number.ensures ∙ ap (λ (x : Flaw). flaw_number x) c.explain_station-told.ensures.1)
