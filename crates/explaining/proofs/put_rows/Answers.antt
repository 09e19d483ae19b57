-- `explaining::put_rows` meets its contract: the lines of so many rows stand, each behind the one before it.
use mathlib.Core.Path.{◌≡◌}
use Rattle.explained_rows.specs.Rows.{row_explained}
use Rattle.printing.proofs.AppendLaws.{none, then}
use Rattle.printing.proofs.LineLaws.{rows_more}
use native.Mathlib.Omega.{arith}
use borrow.Author.Rules.{rules}
use Rattle.explaining.proofs.put_rows.Goals as goal

pub loop-i-init : goal.loop-i-init
loop-i-init c = (search rules, search rules, none c.args.out.now c.args.start (omega arith))

pub loop-i-preserved : goal.loop-i-preserved
loop-i-preserved c =
    (search rules, search rules, rw (rows_more (row_explained c.args.file.now c.args.sheet.now) c.loop-i.i) (then c.loop-i.invariant.2 c.put_row-end.ensures.appended))

pub returns : goal.returns
returns c =
    let e : c.loop-i.i ≡ c.args.n = omega arith in
    record {
      appended = rw e at c.loop-i.invariant.2;
      upper_bound = rw e at c.loop-i.invariant.1;
    }
