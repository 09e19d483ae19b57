-- `sheet_judging::judge_sized` meets its contract: rows, then trailer.
use mathlib.Core.Path.{◌≡◌, refl, ap, ◌∙◌}
use mathlib.Core.Bool.{true}
use mathlib.Core.List.{List}
use Prim.Native.Nat.{ℕ, ◌*◌}
use lib.ListN.{length, drop}
use Rattle.header.specs.Codes.{filed_header_code}
use Rattle.files.specs.Files.{record_at}
use Rattle.files.proofs.FileLaws.{record_wide}
use Rattle.forms.specs.OwnForm.{row_width}
use Rattle.chains.specs.declared.keys.Scope.{Scope}
use Rattle.sheet.specs.Sheets.{row_of, judged_sheet}
use Rattle.forms.proofs.RowLaws.{take-rows}
use Rattle.sheet.proofs.SheetLaws.{rows_wide}
use Rattle.sheet.proofs.WrittenLaws.{all_written}
use native.Mathlib.Omega.{arith}
use Rattle.sheet_judging.proofs.judge_sized.Goals as goal

pub filed_header_code-head-requires : goal.filed_header_code-head-requires
filed_header_code-head-requires c = ap length c.record_in.ensures.0 ∙ record_wide c.args.file.now 0 (omega arith)

pub returns : goal.returns
unfolding judged_sheet
returns c =
    let file = c.args.file.now in
    let everybody : Scope = record { all = true; one = 0; other = 0 } in
    let head : c.filed_header_code-head.result ≡ filed_header_code (record_at file 0) c.args.n =
    c.filed_header_code-head.ensures ∙ ap (λ (r : List ℕ). filed_header_code r c.args.n) c.record_in.ensures.0 in
    c.put_trailer.ensures
    ∙ rw (c.put_rows.ensures.sheet_after, all_written everybody 1 file c.args.sheet.now refl refl c.args.n, head, take-rows row_width (row_of file) c.args.n (rows_wide file c.args.n) (drop (row_width * c.args.n) c.args.sheet.now))
