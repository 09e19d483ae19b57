-- `report_rows::put_row` meets its contract: a bad row has its line, a good one none.
use mathlib.Core.Path.{◌≡◌, sym, ◌∙◌}
use mathlib.Core.Bool.{true, false}
use Prim.Native.Nat.{◌+◌}
use Rattle.forms.specs.OwnForm.{bad}
use Rattle.printing.proofs.AppendLaws.{none}
use Rattle.report_rows.proofs.RowLaws.{good_row, bad_row}
use native.Mathlib.Omega.{arith}
use borrow.Author.Rules.{rules}
use Rattle.report_rows.proofs.put_row.Goals as goal

pub returns-then-not-is_bad : goal.returns-then-not-is_bad
returns-then-not-is_bad c =
    let s = c.args.sheet.now in
    let good : bad s (c.args.i + 1) ≡ false = sym c.is_bad.ensures ∙ c.if-not-is_bad.true in
    record {
      appended = rw (good_row s c.args.i good) (none c.args.out.now c.args.start (omega arith));
      upper_bound = search rules;
    }

pub returns : goal.returns
returns c =
    let s = c.args.sheet.now in
    let broken : bad s (c.args.i + 1) ≡ true = sym c.is_bad.ensures ∙ c.if-not-is_bad.false in
    record {
      appended = rw (bad_row s c.args.i broken c.row_code-code.ensures c.row_twin-twin.ensures c.row_clash-clash.ensures) c.put_bad_row.ensures.appended;
      upper_bound = search rules;
    }
