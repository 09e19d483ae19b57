-- `desk_operators::desk_operators` meets its contract: the answer's parts, and the rows.
use mathlib.Core.Path.{ap, ◌∙◌}
use Rattle.basics.specs.Outcomes.{refusal}
use Rattle.operator_pages.specs.declared.PageAnswer.{PageAnswer}
use Rattle.operator_pages.specs.Calls.{page_answer}
use Rattle.desk_operators.proofs.desk_operators.Goals as goal

pub returns : goal.returns
unfolding page_answer
returns c =
    (c.refusal_number.ensures ∙ ap (λ (a : PageAnswer). refusal a.outcome) c.put_page_bytes-answer.ensures.0, c.put_page_bytes-answer.ensures.1, ap (λ (a : PageAnswer). a.rows) c.put_page_bytes-answer.ensures.0)
