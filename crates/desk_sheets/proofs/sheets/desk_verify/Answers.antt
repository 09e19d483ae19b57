-- `desk_sheets::sheets::desk_verify` meets its contract.
use mathlib.Core.Path.{ap, ◌∙◌}
use Rattle.basics.specs.Outcomes.{refusal, Outcome}
use Rattle.desk_sheets.specs.Promises.{finding_number, offset_with}
use Rattle.verifying.specs.declared.verifying.Finding.{Finding}
use Rattle.desk_sheets.proofs.sheets.desk_verify.Goals as goal

pub returns : goal.returns
returns c = (
  c.refusal_number.ensures ∙ ap (λ (o : Outcome). refusal o) c.verify-verified.ensures.0,
  (
    c.told_finding.ensures.0 ∙ ap (λ (f : Finding). finding_number f) c.verify-verified.ensures.1,
    c.told_finding.ensures.1 ∙ ap (λ (f : Finding). offset_with f) c.verify-verified.ensures.1,
  ),
)
