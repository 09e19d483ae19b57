-- `operator_reports::write_operators` meets its contract: refused, or the lines of the page.
use mathlib.Core.Path.{sym, ap, ◌∙◌}
use Prim.Native.Nat.{ℕ}
use Rattle.basics.proofs.RefusalLaws.{went_on, stopped}
use Rattle.printing.specs.Lines.{refused_line}
use Rattle.printing.proofs.WriteLaws.{written}
use Rattle.operator_counts.specs.Counts.{operators}
use Rattle.operator_pages.proofs.PageLaws.{rows_fit}
use Rattle.operator_pages.proofs.FoundLaws.{answer_is}
use Rattle.operator_reports.proofs.PageLines.{refused_lines, whole_lines}
use native.Mathlib.Omega.{arith}
use borrow.Author.Rules.{rules}
use Rattle.operator_reports.proofs.write_operators.Goals as goal

pub returns-then-is_err : goal.returns-then-is_err
returns-then-is_err c =
    let file = c.args.file.now in
    let no = stopped (answer_is file operators c.page_for-page.result c.page_for-page.ensures).0 c.is_err.ensures.value c.if-is_err.true in
    written (refused_lines file c.page_for-page.result c.page_for-page.ensures no ∙ ap (λ (r : ℕ). refused_line r) (sym c.refusal_number.ensures)) c.put_refused.ensures

pub put_lines-requires : goal.put_lines-requires
put_lines-requires c =
    let file = c.args.file.now in
    (omega (arith, (answer_is file operators c.page_for-page.result c.page_for-page.ensures).1, (rows_fit file operators).0), search rules)

pub returns : goal.returns
returns c =
    let file = c.args.file.now in
    let yes = went_on (answer_is file operators c.page_for-page.result c.page_for-page.ensures).0 c.is_err.ensures.value c.if-is_err.false in
    written (whole_lines file c.page_for-page.result c.page_for-page.ensures yes _ c.stations_in.ensures) c.put_lines.ensures
