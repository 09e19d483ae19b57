-- `operator_reports::put_operators` meets its contract: the lines of so many rows stand, each behind the one before it.
use mathlib.Core.Path.{◌≡◌}
use Prim.Native.Nat.{◌+◌, ◌-◌, zero-le}
use Rattle.printing.proofs.AppendLaws.{none, then}
use Rattle.printing.proofs.LineLaws.{rows_more}
use Rattle.operator_lines.specs.Lines.{page_line}
use native.Mathlib.Omega.{arith}
use borrow.Author.Rules.{rules}
use Rattle.operator_reports.proofs.put_operators.Goals as goal

pub loop-i-init : goal.loop-i-init
loop-i-init c = (search rules, search rules, none c.args.out.now 0 zero-le)

pub loop-i-preserved : goal.loop-i-preserved
loop-i-preserved c =
    let page = c.args.page in
    let one : c.loop-i.i + 1 - 1 ≡ c.loop-i.i = omega arith in
    (search rules, search rules, rw (rows_more (page_line page) c.loop-i.i, one) (then c.loop-i.invariant.2 (rw c.row_at.ensures at c.put_operator-end.ensures.appended)))

pub returns : goal.returns
returns c =
    let e : c.loop-i.i ≡ c.args.n = omega arith in
    record {
      appended = rw e at c.loop-i.invariant.2;
      upper_bound = rw e at c.loop-i.invariant.1;
    }
