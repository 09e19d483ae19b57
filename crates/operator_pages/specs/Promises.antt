-- What the calls on a page promise, as relations between what they are given, their answer and what they leave in the lent rows.
use Rattle.std.specs.Prelude.{ℕ, ◌≡◌, List, length}
use Rattle.operator_pages.specs.declared.OperatorRow.{OperatorRow}
use Rattle.operator_pages.specs.declared.PageAnswer.{PageAnswer}
use Rattle.operator_pages.specs.declared.Page.{Page}
use Rattle.operator_pages.specs.Calls.{page_outcome, rows_for, page_answer, rows_after, paged}

-- `page_for`: the page by value.
abbrev pub PageFound : List ℕ → ℕ → Page → Type 0
PageFound file room answer = answer ≡ paged (page_outcome file room) (rows_for file room)

-- `put_page`: the answer, and every lent row.
abbrev pub PagePut : List ℕ → List OperatorRow → PageAnswer → List OperatorRow → Type 0
PagePut file old answer after = (answer ≡ page_answer file (length old)) × (after ≡ rows_after file old)
