-- `desk_operators::put_rows` meets its contract: the rows of the operators so far stand, each behind the one before it.
use mathlib.Core.Path.{◌≡◌, refl, ap, ◌∙◌}
use mathlib.Core.List.{List, ◌++◌}
use Prim.Native.Nat.{ℕ, ◌+◌, ◌-◌, zero-le}
use native.Mathlib.Numerals.{add-one}
use lib.ListN.{length}
use Rattle.printing.proofs.AppendLaws.{none, then}
use Rattle.operator_counts.specs.Counts.{operators}
use Rattle.operator_pages.specs.declared.OperatorRow.{OperatorRow}
use Rattle.operator_pages.specs.Pages.{operator_row, rows_below, tally_in}
use Rattle.operator_pages.proofs.PackLaws.{row_skipped, row_added, one_more, rows_grow}
use Rattle.desk_operators.specs.Rows.{spell_row}
use Rattle.desk_operators.specs.Promises.{spelled_rows}
use Rattle.desk_operators.proofs.RowLaws.{spelled_more}
use native.Mathlib.Omega.{arith}
use borrow.Author.Rules.{rules}
use Rattle.desk_operators.proofs.put_rows.Goals as goal
use Rattle.desk_operators.proofs.put_rows.Goals.{then-tally-ne0, else-tally-ne0}

pub loop-c-init : goal.loop-c-init
unfolding rows_below spelled_rows
loop-c-init c = (refl, zero-le, none c.args.out.now 0 zero-le)

pub put_row-end-requires : goal.put_row-end-requires
put_row-end-requires c =
    let f = tally_in c.args.counts in
    omega (arith, c.requires, c.loop-c.invariant.0, c.loop-c.invariant.1, one_more f c.loop-c.c c.if-tally-ne0.true, rows_grow f (c.loop-c.c + 1) operators (search rules), ap (λ (m : ℕ). length (rows_below f m)) (add-one c.loop-c.c))

pub loop-c-preserved : goal.loop-c-preserved
loop-c-preserved c =
    let f = tally_in c.args.counts in
    elim c.if-tally-ne0.branch [
      | then-tally-ne0 w ↦
          let any = w.if-tally-ne0.true in
          let longer : spelled_rows (rows_below f (c.loop-c.c + 1)) ≡ spelled_rows (rows_below f c.loop-c.c) ++ spell_row w.operator_row.result =
          rw (add-one c.loop-c.c, w.operator_row.ensures) (ap (λ (r : List OperatorRow). spelled_rows r) (row_added f c.loop-c.c any) ∙ spelled_more (rows_below f c.loop-c.c) (operator_row c.loop-c.c (f c.loop-c.c))) in
          rw (w.out-is, w.end-is)
          (search rules, omega (arith, w.put_row-end.ensures.upper_bound, c.loop-c.invariant.1, one_more f c.loop-c.c any, ap (λ (m : ℕ). length (rows_below f m)) (add-one c.loop-c.c)), rw longer (then c.loop-c.invariant.2 w.put_row-end.ensures.appended))
      | else-tally-ne0 w ↦
          let same : rows_below f (c.loop-c.c + 1) ≡ rows_below f c.loop-c.c = rw (add-one c.loop-c.c) (row_skipped f c.loop-c.c w.if-tally-ne0.false) in
          rw (w.out-is, w.end-is) (c.loop-c.invariant.0, rw same c.loop-c.invariant.1, rw same c.loop-c.invariant.2)
    ]

pub returns : goal.returns
returns c =
    let end : c.loop-c.c ≡ operators = omega (arith, c.loop-c-test.false, c.loop-c.auto.c-end) in
    rw end at c.loop-c.invariant.2
