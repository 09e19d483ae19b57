-- A page that was found: what the code holds of it is what the definitions give.
use mathlib.Core.Path.{◌≡◌, ap, ◌∙◌}
use mathlib.Core.List.{List}
use Prim.Native.Nat.{ℕ, suc, ◌-◌, ◌<◌}
use native.Mathlib.Omega.{arith}
use lib.ListN.{length, get_or, replicate, get_or-append}
use Rattle.forms.specs.Counting.{rows}
use Rattle.forms.proofs.RowLaws.{rows_cong}
use Rattle.operator_counts.specs.Counts.{operators}
use Rattle.operator_pages.specs.declared.OperatorRow.{OperatorRow}
use Rattle.operator_pages.specs.declared.Page.{Page}
use Rattle.operator_pages.specs.Calls.{page_outcome, rows_for, no_row, page_row, blank_row, filled_up, paged}
use Rattle.operator_pages.specs.Promises.{PageFound}

-- The page p of a file was found, where there is room for so many rows.
module _ (file : List ℕ) (room : ℕ) (p : Page) (found : PageFound file room p) where
  -- It has the call's outcome and number of rows,
  pub answer_is : (p.answer.outcome ≡ page_outcome file room) × (p.answer.rows ≡ length (rows_for file room))
  unfolding paged
  answer_is = (ap (λ (q : Page). q.answer.outcome) found, ap (λ (q : Page). q.answer.rows) found)

  -- in front the rows that are given,
  pub same_row : (i : ℕ) → i < length (rows_for file room) → page_row p i ≡ get_or (rows_for file room) i no_row
  unfolding paged filled_up
  same_row i l =
      let given = rows_for file room in
      ap (λ (q : Page). page_row q i) found ∙ get_or-append given (replicate (operators - length given) blank_row) no_row i l

  -- so that what is written of each of them is what is written of those.
  pub same_texts : (text : OperatorRow → List ℕ) → rows (λ k. text (page_row p (k - 1))) (length (rows_for file room)) ≡ rows (λ k. text (get_or (rows_for file room) (k - 1) no_row)) (length (rows_for file room))
  same_texts text =
      rows_cong (λ k. text (page_row p (k - 1))) (λ k. text (get_or (rows_for file room) (k - 1) no_row)) (length (rows_for file room)) (λ i l. let one : suc i - 1 ≡ i = omega arith in rw one (ap text (same_row i l)))
