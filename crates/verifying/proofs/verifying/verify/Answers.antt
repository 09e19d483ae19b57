-- `verifying::verifying::verify` meets its contract: refused, right, or wrong at a byte.
use mathlib.Core.Path.{refl, ◌≡◌, sym, ap, ◌∙◌}
use mathlib.Core.Bool.{true}
use Prim.Native.Nat.{ℕ}
use Rattle.basics.proofs.RefusalLaws.{stopped, done, went_on}
use Rattle.sheet.specs.Sheets.{judged_sheet, sheet_of}
use Rattle.sheet.specs.Calls.{judge_outcome}
use Rattle.sheet.proofs.JudgeLaws.{judge_sized_up, sized_at}
use Rattle.alike.specs.Alike.{alike}
use Rattle.verifying.proofs.VerifyLaws.{verify_refused, verify_right, verify_wrong}
use Rattle.verifying.proofs.verifying.verify.Goals as goal
use Rattle.verifying.proofs.verifying.verify.Goals.{After-right_in_sheet-right}

pub returns-then-is_err : goal.returns-then-is_err
returns-then-is_err c =
    verify_refused c.args.file.now c.args.sheet.now c.judge_outcome-outcome.ensures (stopped refl c.is_err.ensures.value c.if-is_err.true)

pub right_in_sheet-right-requires : goal.right_in_sheet-right-requires
right_in_sheet-right-requires c =
    sized_at c.stations_in-n.ensures (judge_sized_up c.args.file.now c.args.sheet.now (went_on c.judge_outcome-outcome.ensures c.is_err.ensures.value c.if-is_err.false))

-- judging is done
passed : (c : After-right_in_sheet-right) → done (judge_outcome c.args.file.now c.args.sheet.now) ≡ true
passed c = went_on c.judge_outcome-outcome.ensures c.is_err.ensures.value c.if-is_err.false

-- and so much of the sheet is right
so_far : (c : After-right_in_sheet-right) → c.right_in_sheet-right.result ≡ alike (sheet_of c.args.file.now) c.args.sheet.now
unfolding sheet_of
so_far c =
    c.right_in_sheet-right.ensures ∙ ap (λ (n : ℕ). alike (judged_sheet c.args.file.now n) c.args.sheet.now) c.stations_in-n.ensures

pub returns-then-right-sheet : goal.returns-then-right-sheet
returns-then-right-sheet c = verify_right c.args.file.now c.args.sheet.now (passed (goal.at.returns-then-right-sheet c).After-right_in_sheet-right) (so_far (goal.at.returns-then-right-sheet c).After-right_in_sheet-right) c.if-right-sheet.true

pub returns : goal.returns
returns c = verify_wrong c.args.file.now c.args.sheet.now (passed (goal.at.returns c).After-right_in_sheet-right) (so_far (goal.at.returns c).After-right_in_sheet-right) c.if-right-sheet.false
