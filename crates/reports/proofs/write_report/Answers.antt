-- `reports::write_report` meets its contract: refused, or the lines of the sheet judged from the file.
use mathlib.Core.Path.{◌≡◌, sym, ap, ◌∙◌}
use Prim.Native.Nat.{ℕ}
use Rattle.basics.specs.Outcomes.{refusal, Outcome}
use Rattle.printing.specs.Lines.{refused_line}
use Rattle.files.specs.Calls.{length_outcome}
use Rattle.basics.proofs.RefusalLaws.{went_on, stopped}
use Rattle.printing.proofs.WriteLaws.{written}
use Rattle.reports.proofs.ReportLaws.{refused_report, whole_report}
use borrow.Author.Rules.{rules}
use Rattle.reports.proofs.write_report.Goals as goal

pub returns-then-is_err : goal.returns-then-is_err
returns-then-is_err c =
    let file = c.args.file.now in
    let asked : c.check_file-outcome.result ≡ length_outcome file = c.check_file-outcome.ensures in
    let no = stopped asked c.is_err.ensures.value c.if-is_err.true in
    let number : refusal (length_outcome file) ≡ c.refusal_number.result = ap (λ (o : Outcome). refusal o) (sym asked) ∙ sym c.refusal_number.ensures in
    written (refused_report file no ∙ ap (λ (r : ℕ). refused_line r) number) c.put_refused.ensures

pub put_file-requires : goal.put_file-requires
put_file-requires c = record {
  in_bounds = search rules;
  file_value = went_on c.check_file-outcome.ensures c.is_err.ensures.value c.if-is_err.false;
}

pub returns : goal.returns
returns c =
    let file = c.args.file.now in
    written (whole_report file (went_on c.check_file-outcome.ensures c.is_err.ensures.value c.if-is_err.false)) c.put_file.ensures
