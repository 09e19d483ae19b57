-- `desk_sheets::sheets::desk_replace` meets its contract.
use mathlib.Core.Path.{ap, ◌∙◌}
use Rattle.basics.specs.Outcomes.{refusal, Outcome}
use Rattle.desk_sheets.proofs.sheets.desk_replace.Goals as goal

pub returns : goal.returns
returns c =
    let replaced = c.replace-replaced.ensures.record_replaced in
    record {
      filing_replaced = (c.refusal_number.ensures ∙ ap (λ (o : Outcome). refusal o) (c.ended.ensures ∙ replaced.0), replaced.2, replaced.3, c.unwrap_or.ensures ∙ replaced.1);
      still_judged = c.replace-replaced.ensures.still_judged;
    }
