-- The promises of a page leave one answer and one content of the lent rows.
use mathlib.Core.Path.{◌≡◌, sym, ◌∙◌}
use mathlib.Core.List.{List}
use Prim.Native.Nat.{ℕ}
use Rattle.operator_pages.specs.declared.OperatorRow.{OperatorRow}
use Rattle.operator_pages.specs.declared.PageAnswer.{PageAnswer}
use Rattle.operator_pages.specs.declared.Page.{Page}
use Rattle.operator_pages.specs.Promises.{PageFound, PagePut}

-- Two pages of one file and one room are equal.
pub one_page : (file : List ℕ) (room : ℕ) (p q : Page) → PageFound file room p → PageFound file room q → p ≡ q
one_page file room p q e f = e ∙ sym f

-- Two answers of `put_page` to one file and the same lent rows are equal, and so is what they leave there.
pub one_put : (file : List ℕ) (old : List OperatorRow) (a b : PageAnswer) (after after' : List OperatorRow) → PagePut file old a after → PagePut file old b after' → (a ≡ b) × (after ≡ after')
one_put file old a b after after' p q = (p.0 ∙ sym q.0, p.1 ∙ sym q.1)
