-- The sheet that is judged for a report: it is the file's, and its trailer has the number of its bad rows.
use Rattle.std.specs.Prelude.{Ok, Err}
use mathlib.Core.Path.{◌≡◌, ap, ◌∙◌}
use mathlib.Core.Bool.{not, true}
use mathlib.Core.List.{List, [], ◌∷◌}
use Prim.Native.Nat.{ℕ}
use lib.ListN.{length}
use borrow.Author.Tests.{eq-eqb}
use Rattle.columns.specs.Texts.{sized}
use Rattle.basics.specs.Outcomes.{refusal, when}
use Rattle.basics.specs.declared.Refusal.TheVariants as why
use Rattle.basics.proofs.RefusalLaws.{done, passes, none_left, asked-on}
use Rattle.files.specs.Files.{stations}
use Rattle.files.specs.Calls.{file_tests, length_outcome}
use Rattle.files.proofs.LengthLaws.{length_passed}
use Rattle.forms.specs.Counting.{count}
use Rattle.forms.specs.OwnForm.{sheet_length, bad, found_in}
use Rattle.sheet.specs.Sheets.{judged_sheet, sheet_of}
use Rattle.sheet.specs.Calls.{judge_outcome}
use Rattle.sheet.specs.Promises.{Sized}
use Rattle.sheet.proofs.JudgeLaws.{judge_sized_up, sized_at}
use Rattle.sheet.proofs.SheetLaws.{judged_found}
use Rattle.reports.specs.Reports.{sheet_lines, sheet_report}

-- Judging a file whose length is right into a sheet that fits it is done.
judged_so : (file sheet : List ℕ) → done (length_outcome file) ≡ true → length sheet ≡ sheet_length (stations file) → judge_outcome file sheet ≡ Ok tt
unfolding judge_outcome
judged_so file sheet t l =
    let sheetTests = when (not (sized (sheet_length (stations file)) sheet)) (Err why.SheetLength) ∷ [] in
    asked-on (file_tests file) sheetTests (length_passed file t) ∙ passes (Err why.SheetLength) [] (rw (eq-eqb (length sheet) (sheet_length (stations file)) l)) ∙ none_left

-- A file whose length is right, and a sheet that fits it, have the sizes that judging asks for.
pub sized_so : (file sheet : List ℕ) (n : ℕ) → done (length_outcome file) ≡ true → n ≡ stations file → length sheet ≡ sheet_length n → Sized file sheet n
unfolding refusal
sized_so file sheet n t en l = sized_at en (judge_sized_up file sheet (ap done (judged_so file sheet t (rw en at l))))

-- The trailer of a file's sheet has the number of its bad rows.
pub bad_found : (file : List ℕ) → found_in (sheet_of file) (stations file) ≡ count (bad (sheet_of file)) (stations file)
unfolding sheet_of
bad_found file = judged_found file (stations file)

-- The lines of the sheet that judging leaves are the lines of the file's sheet.
pub judged_lines : (file after : List ℕ) (n : ℕ) → n ≡ stations file → after ≡ judged_sheet file n → sheet_lines after n (found_in after n) ≡ sheet_report (sheet_of file) n
unfolding sheet_report sheet_of
judged_lines file after n en ea =
    let own : after ≡ judged_sheet file (stations file) = ea ∙ ap (λ (m : ℕ). judged_sheet file m) en in
    rw (own, en) (ap (λ (m : ℕ). sheet_lines (sheet_of file) (stations file) m) (bad_found file))
