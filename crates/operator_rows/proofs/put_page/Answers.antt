-- `operator_rows::put_page` meets its contract: each turn puts one row more.
use mathlib.Core.Path.{◌≡◌, ap, ◌∙◌}
use mathlib.Core.List.{List}
use Prim.Native.Nat.{ℕ, ◌≤◌, ◌<◌}
use native.Mathlib.Omega.{arith}
use lib.ListN.{length, set}
use Rattle.operator_counts.specs.Counts.{operators}
use Rattle.operator_pages.specs.declared.OperatorRow.{OperatorRow}
use Rattle.operator_pages.specs.declared.PageAnswer.{PageAnswer}
use Rattle.operator_pages.specs.declared.Page.{Page}
use Rattle.operator_pages.specs.Calls.{page_row, rows_for, page_answer}
use Rattle.operator_pages.specs.Promises.{PageFound}
use Rattle.operator_pages.proofs.PageLaws.{rows_fit}
use Rattle.operator_rows.proofs.PutLaws.{put_to, page_answered, page_put}
use Rattle.operator_rows.proofs.put_page.Goals as goal

-- a page that was found has a hundred rows at most, and they fit those that are lent
page_rows_fit : (file : List ℕ) (room : ℕ) (p : Page) → PageFound file room p → (p.answer.rows ≤ operators) × (p.answer.rows ≤ room)
unfolding page_answer
page_rows_fit file room p e =
    let many : p.answer.rows ≡ length (rows_for file room) = ap (λ (a : PageAnswer). a.rows) (page_answered file room p e) in
    rw many (rows_fit file room)

pub row_at-requires : goal.row_at-requires
row_at-requires c = omega (arith, (page_rows_fit c.args.file.now (length c.args.rows.now) c.page_for-page.result c.page_for-page.ensures).0, c.loop-i-test.true)

pub bounds-rows-i : goal.bounds-rows-i
bounds-rows-i c = omega (arith, (page_rows_fit c.args.file.now (length c.args.rows.now) c.page_for-page.result c.page_for-page.ensures).1, c.loop-i-test.true, c.loop-i.auto.rows)

pub returns : goal.returns
returns c =
    let page = c.page_for-page.result in
    let n : c.loop-i.i ≡ page.answer.rows = omega (arith, c.loop-i.auto.i-end, c.loop-i-test.false) in (
      page_answered c.args.file.now (length c.args.rows.now) page c.page_for-page.ensures,
      c.loop-i.invariant ∙ rw n (page_put c.args.file.now c.args.rows.now page c.page_for-page.ensures),
    )
