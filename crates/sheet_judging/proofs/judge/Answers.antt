-- `sheet_judging::judge` meets its contract: refused, or the whole sheet.
use mathlib.Core.Path.{◌≡◌, sym, ap, ◌∙◌}
use mathlib.Core.Bool.{true}
use Prim.Native.Nat.{ℕ}
use Rattle.basics.proofs.RefusalLaws.{done, passed_on, error_done, none_told}
use Rattle.sheet.specs.Sheets.{judged_sheet}
use Rattle.sheet.specs.Calls.{judge_outcome}
use Rattle.sheet.proofs.JudgeLaws.{judge_sized_up, judge_refused, judge_done, sized_at}
use Rattle.sheet_judging.proofs.judge.Goals as goal

pub returns-in_err-judge_outcome : goal.returns-in_err-judge_outcome
returns-in_err-judge_outcome c =
    judge_refused c.args.file.now c.args.sheet.now (passed_on c.from_residual.ensures.1 c.in_err-judge_outcome.ensures) (error_done c.from_residual.result c.from_residual.ensures.1 c.in_err-judge_outcome.ensures)

pub judge_sized-requires : goal.judge_sized-requires
judge_sized-requires c =
    let yes : done (judge_outcome c.args.file.now c.args.sheet.now) ≡ true = none_told c.in_ok-judge_outcome.ensures in
    sized_at c.stations_in-n.ensures (judge_sized_up c.args.file.now c.args.sheet.now yes)

pub returns : goal.returns
returns c =
    let yes : done (judge_outcome c.args.file.now c.args.sheet.now) ≡ true = none_told c.in_ok-judge_outcome.ensures in
    judge_done c.args.file.now c.args.sheet.now yes (c.judge_sized.ensures ∙ ap (λ (n : ℕ). judged_sheet c.args.file.now n) c.stations_in-n.ensures)
