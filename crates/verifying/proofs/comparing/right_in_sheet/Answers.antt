-- `verifying::comparing::right_in_sheet` meets its contract: a wrong row decides, else the trailer of the rows that stand.
use mathlib.Core.Path.{◌≡◌, ap, ◌∙◌}
use mathlib.Core.List.{List}
use Prim.Native.Nat.{ℕ, ◌+◌, ◌*◌, ◌≤◌, ◌<◌}
use lib.ListN.{length}
use Rattle.columns.proofs.TextLaws.{from_on}
use Rattle.header.specs.Codes.{filed_header_code}
use Rattle.files.specs.Files.{record_at}
use Rattle.files.proofs.FileLaws.{record_wide}
use Rattle.forms.specs.Counting.{rows}
use Rattle.forms.specs.Forms.{trailer_of}
use Rattle.forms.specs.OwnForm.{form, row_width, trailer_length}
use Rattle.sheet.specs.Sheets.{row_of, judged_sheet}
use Rattle.sheet.proofs.SheetLaws.{rows_wide}
use Rattle.alike.specs.Alike.{alike}
use Rattle.alike.proofs.AlikeLaws.{alike_most}
use Rattle.verifying.proofs.RightLaws.{rows_decide, trailer_decides}
use native.Mathlib.Omega.{arith}
use Rattle.verifying.proofs.comparing.right_in_sheet.Goals as goal

pub returns-then-right-end : goal.returns-then-right-end
unfolding judged_sheet
returns-then-right-end c =
    let file = c.args.file.now in
    let sheet = c.args.sheet.now in
    let e : c.right_in_rows-right.result ≡ alike (rows (row_of file) c.args.n) sheet = c.right_in_rows-right.ensures in
    let short : alike (rows (row_of file) c.args.n) sheet < row_width * c.args.n = omega (arith, e, c.if-right-end.true) in
    e ∙ rows_decide form (row_of file) (rows_wide file) sheet c.args.n (filed_header_code (record_at file 0) c.args.n) short

pub filed_header_code-head-requires : goal.filed_header_code-head-requires
filed_header_code-head-requires c = ap length c.record_in.ensures.0 ∙ record_wide c.args.file.now 0 (omega arith)

pub overflow_add-result : goal.overflow_add-result
unfolding trailer_of
overflow_add-result c =
    let size : length c.standing_trailer-trailer.result ≡ trailer_length = ap length c.standing_trailer-trailer.ensures in
    let most : c.alike_in_front.result ≤ length c.standing_trailer-trailer.result = rw c.alike_in_front.ensures (alike_most c.standing_trailer-trailer.result _) in
    omega (arith, size, most)

pub returns : goal.returns
unfolding judged_sheet
returns c =
    let file = c.args.file.now in
    let sheet = c.args.sheet.now in
    let n = c.args.n in
    let head : c.filed_header_code-head.result ≡ filed_header_code (record_at file 0) n =
    c.filed_header_code-head.ensures ∙ ap (λ (r : List ℕ). filed_header_code r n) c.record_in.ensures.0 in
    let e : c.right_in_rows-right.result ≡ alike (rows (row_of file) n) sheet = c.right_in_rows-right.ensures in
    let whole : row_width * n ≤ alike (rows (row_of file) n) sheet = omega (arith, e, c.if-right-end.false) in
    ap (λ (x : ℕ). row_width * n + x) (c.alike_in_front.ensures ∙ rw (from_on sheet (row_width * n), c.standing_trailer-trailer.ensures, head))
    ∙ trailer_decides form (row_of file) (rows_wide file) sheet n (filed_header_code (record_at file 0) n) whole
