-- `verifying::comparing::right_in_rows` meets its contract: all rows that were passed are right.
use mathlib.Core.Path.{◌≡◌, refl, sym, ap, ◌∙◌}
use mathlib.Core.List.{List}
use Prim.Native.Nat.{ℕ, ◌+◌, ◌*◌, ◌≤◌, ◌<◌}
use lib.ListN.{drop}
use Rattle.forms.specs.Counting.{rows}
use Rattle.forms.specs.OwnForm.{form, row_width}
use Rattle.sheet.specs.Sheets.{row_of}
use Rattle.sheet.specs.Entered.{everybody}
use Rattle.sheet.proofs.SheetLaws.{rows_wide}
use Rattle.alike.specs.Alike.{alike}
use Rattle.verifying.proofs.RightLaws.{row_right, row_wrong}
use native.Mathlib.Omega.{arith}
use Rattle.verifying.proofs.comparing.right_in_rows.Goals as goal

-- no row is right at first
none_yet : (file sheet : List ℕ) → alike (rows (row_of file) 0) sheet ≡ row_width * 0
unfolding alike
none_yet file sheet = refl

pub loop-i-init : goal.loop-i-init
loop-i-init c =
    let file = c.args.file.now in
    (none_yet file c.args.sheet.now, c.new-entered.ensures file everybody (λ i j e. refl))

pub returns-then-right-lt-ROW_WIDTH : goal.returns-then-right-lt-ROW_WIDTH
returns-then-right-lt-ROW_WIDTH c =
    let file = c.args.file.now in
    let sheet = c.args.sheet.now in
    let i = c.loop-i.i in
    let e : c.right_in_row-right.result ≡ alike (row_of file (i + 1)) (drop (row_width * i) sheet) = c.right_in_row-right.ensures.value in
    let short : alike (row_of file (i + 1)) (drop (row_width * i) sheet) < row_width = omega (arith, e, c.if-right-lt-ROW_WIDTH.true) in
    ap (λ (x : ℕ). row_width * i + x) e ∙ row_wrong form (row_of file) (rows_wide file) sheet i c.loop-i.invariant.0 c.args.n (omega arith) short

pub loop-i-preserved : goal.loop-i-preserved
loop-i-preserved c =
    let file = c.args.file.now in
    let sheet = c.args.sheet.now in
    let i = c.loop-i.i in
    let e : c.right_in_row-right.result ≡ alike (row_of file (i + 1)) (drop (row_width * i) sheet) = c.right_in_row-right.ensures.value in
    let whole : row_width ≤ alike (row_of file (i + 1)) (drop (row_width * i) sheet) = omega (arith, e, c.if-right-lt-ROW_WIDTH.false) in
    (row_right form (row_of file) (rows_wide file) sheet i c.loop-i.invariant.0 whole, c.right_in_row-right.ensures.entered_2)

pub returns : goal.returns
returns c =
    let e : c.loop-i.i ≡ c.args.n = omega arith in
    sym (rw e at c.loop-i.invariant.0)
