-- `explained_rows::put_row` meets its contract: a bad row has its line, a good one none.
use native.Mathlib.Omega.{arith}
use mathlib.Core.Path.{◌≡◌, sym, ap, ◌∙◌}
use mathlib.Core.Bool.{true, false}
use Prim.Native.Nat.{◌+◌}
use lib.ListN.{length}
use Rattle.files.proofs.FileLaws.{record_wide}
use Rattle.forms.specs.OwnForm.{bad}
use Rattle.printing.proofs.AppendLaws.{none}
use Rattle.explained_rows.proofs.RowLaws.{good_row, bad_row}
use Rattle.explained_rows.proofs.put_row.Goals as goal

pub returns-then-not-is_bad : goal.returns-then-not-is_bad
returns-then-not-is_bad c =
    let s = c.args.sheet.now in
    let good : bad s (c.args.i + 1) ≡ false = sym c.is_bad.ensures ∙ c.if-not-is_bad.true in
    record {
      appended = rw (good_row c.args.file.now s c.args.i good) (none c.args.out.now c.args.start (omega (arith, c.requires.start_in_bounds)));
      upper_bound = omega arith;
    }

pub put_explained-requires : goal.put_explained-requires
put_explained-requires c =
    (ap length c.record_in.ensures.0 ∙ record_wide c.args.file.now (c.args.i + 1) c.requires.i_bound.1, c.requires.start_in_bounds)

pub returns : goal.returns
returns c =
    let s = c.args.sheet.now in
    let broken : bad s (c.args.i + 1) ≡ true = sym c.is_bad.ensures ∙ c.if-not-is_bad.false in
    record {
      appended = rw (bad_row c.args.file.now s c.args.i broken c.row_code-code.ensures c.row_twin-twin.ensures c.row_clash-clash.ensures c.record_in.ensures.0) c.put_explained.ensures.appended;
      upper_bound = omega (arith, c.put_explained.ensures.upper_bound);
    }
