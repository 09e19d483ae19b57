-- `operator_pages::operators_in` meets its contract: one more for each operator that has a row.
use mathlib.Core.Path.{◌≡◌, refl, sym, ap, ◌∙◌}
use Prim.Native.Nat.{ℕ, zero-le}
use native.Mathlib.Numerals.{add-one}
use native.Mathlib.Omega.{arith}
use lib.ListN.{length}
use Rattle.operator_counts.specs.Counts.{operators}
use Rattle.operator_pages.specs.Pages.{rows_below, tally_in}
use Rattle.operator_pages.proofs.PackLaws.{row_skipped, one_more}
use borrow.Author.Rules.{rules}
use Rattle.operator_pages.proofs.operators_in.Goals as goal
use Rattle.operator_pages.proofs.operators_in.Goals.{then-tally-ne0, else-tally-ne0}

pub loop-tally-init : goal.loop-tally-init
unfolding rows_below
loop-tally-init c = (zero-le, refl)

pub loop-tally-preserved : goal.loop-tally-preserved
loop-tally-preserved c =
    let f = tally_in c.args.counts in
    let i = c.loop-tally.tally-index in
    elim c.if-tally-ne0.branch [
      | then-tally-ne0 w ↦ rw w.found-is (search rules, rw (add-one i) (omega (arith, c.loop-tally.invariant.1, one_more f i w.if-tally-ne0.true)))
      | else-tally-ne0 w ↦ rw w.found-is (search rules, rw (add-one i) (c.loop-tally.invariant.1 ∙ ap length (sym (row_skipped f i w.if-tally-ne0.false))))
    ]

pub returns : goal.returns
returns c =
    let end : c.loop-tally.tally-index ≡ operators = omega arith in
    c.loop-tally.invariant.1 ∙ ap (λ (m : ℕ). length (rows_below (tally_in c.args.counts) m)) end
