-- `operator_reports::stations_on` meets its contract: so many rows are summed.
use mathlib.Core.Path.{◌≡◌, refl, ap, ◌∙◌}
use Prim.Native.Nat.{ℕ, ◌+◌, ◌-◌}
use native.Mathlib.Numerals.{add-one}
use Rattle.operator_pages.specs.declared.OperatorRow.{OperatorRow}
use Rattle.operator_pages.specs.Calls.{page_row}
use native.Mathlib.Omega.{arith}
use borrow.Author.Rules.{rules}
use Rattle.operator_reports.proofs.stations_on.Goals as goal

pub loop-i-init : goal.loop-i-init
loop-i-init c = (refl, search rules)

pub loop-i-preserved : goal.loop-i-preserved
loop-i-preserved c =
    let page = c.args.page in
    (rw (add-one c.loop-i.i) (ap (λ (y : OperatorRow). c.loop-i.sum + y.tally.stations) c.row_at.ensures ∙ ap (λ (m : ℕ). m + (page_row page c.loop-i.i).tally.stations) c.loop-i.invariant.0), search rules)

pub returns : goal.returns
returns c =
    let e : c.loop-i.i ≡ c.args.n = omega arith in
    rw e at c.loop-i.invariant.0
