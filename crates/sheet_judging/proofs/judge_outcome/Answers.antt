-- `sheet_judging::judge_outcome` meets its contract: the file's length, then the sheet's.
use Rattle.std.specs.Prelude.{Err}
use mathlib.Core.Path.{◌≡◌, sym, ◌∙◌}
use mathlib.Core.Bool.{true, false, not}
use mathlib.Core.List.{[], ◌∷◌}
use borrow.Author.Tests.{eq-eqb, ne_eqb}
use Rattle.columns.specs.Texts.{sized}
use Rattle.basics.specs.Outcomes.{when, first_refusal}
use Rattle.basics.specs.declared.Refusal.TheVariants as why
use Rattle.basics.proofs.RefusalLaws.{done, error_told, passes, stops, none_left, asked-on, ended-there, passed_on, none_told}
use Rattle.files.specs.Files.{stations}
use Rattle.files.specs.Calls.{file_tests}
use Rattle.files.proofs.LengthLaws.{length_passed, whole_records}
use Rattle.forms.specs.OwnForm.{sheet_length}
use Rattle.sheet.specs.Calls.{judge_outcome}
use native.Mathlib.Omega.{arith}
use Rattle.sheet_judging.proofs.judge_outcome.Goals as goal
use Rattle.sheet_judging.proofs.judge_outcome.Goals.{After-stations_in-n}

pub returns-in_err-check_file : goal.returns-in_err-check_file
unfolding judge_outcome
returns-in_err-check_file c =
    let file = c.args.file.now in
    let e : c.from_residual.result ≡ first_refusal (file_tests file) = passed_on c.from_residual.ensures.1 c.in_err-check_file.ensures in
    let no : done (first_refusal (file_tests file)) ≡ false = error_told c.in_err-check_file.ensures in
    e ∙ ended-there (file_tests file) (when (not (sized (sheet_length (stations file)) c.args.sheet.now)) (Err why.SheetLength) ∷ []) no

pub overflow_mul-n : goal.overflow_mul-n
overflow_mul-n c =
    let file = c.args.file.now in
    let yes : done (first_refusal (file_tests file)) ≡ true = none_told c.in_ok-check_file.ensures in
    let w = whole_records file (length_passed file yes) in
    omega (arith, w.0, c.stations_in-n.ensures)

pub overflow_add-n : goal.overflow_add-n
overflow_add-n c =
    let file = c.args.file.now in
    let yes : done (first_refusal (file_tests file)) ≡ true = none_told c.in_ok-check_file.ensures in
    let w = whole_records file (length_passed file yes) in
    omega (arith, w.0, c.stations_in-n.ensures)

-- the file's length is passed
passed : (c : After-stations_in-n) → judge_outcome c.args.file.now c.args.sheet.now ≡ first_refusal (when (not (sized (sheet_length (stations c.args.file.now)) c.args.sheet.now)) (Err why.SheetLength) ∷ [])
unfolding judge_outcome
passed c =
    let file = c.args.file.now in
    let yes : done (first_refusal (file_tests file)) ≡ true = none_told c.in_ok-check_file.ensures in
    asked-on (file_tests file) (when (not (sized (sheet_length (stations file)) c.args.sheet.now)) (Err why.SheetLength) ∷ []) (length_passed file yes)

pub returns-then-sheet-n : goal.returns-then-sheet-n
returns-then-sheet-n c = sym ((passed (goal.at.returns-then-sheet-n c).After-stations_in-n) ∙ stops (Err why.SheetLength) [] (rw (← c.stations_in-n.ensures, ne_eqb _ _ c.if-sheet-n.true)))

pub returns : goal.returns
returns c = sym ((passed (goal.at.returns c).After-stations_in-n) ∙ passes (Err why.SheetLength) [] (rw (← c.stations_in-n.ensures, eq-eqb _ _ c.if-sheet-n.false)) ∙ none_left)
