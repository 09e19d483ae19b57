-- The lines of the sheet that is judged.
use mathlib.Core.Path.{◌≡◌, ap, ◌∙◌}
use mathlib.Core.Bool.{true, false}
use mathlib.Core.List.{List}
use Prim.Native.Nat.{ℕ}
use Rattle.basics.specs.Outcomes.{refusal, if_done}
use Rattle.basics.proofs.RefusalLaws.{done}
use Rattle.files.specs.Files.{stations}
use Rattle.forms.specs.Counting.{count}
use Rattle.forms.specs.OwnForm.{bad, found_in}
use Rattle.sheet.specs.Sheets.{judged_sheet, sheet_of}
use Rattle.printing.specs.Lines.{refused_line}
use Rattle.files.specs.Calls.{length_outcome}
use Rattle.reports.proofs.SheetLaws.{bad_found}
use Rattle.explaining.specs.Explanations.{sheet_explained, explanation_of}

-- The lines of the sheet that judging leaves are the lines of the file's sheet.
pub judged_lines : (file after : List ℕ) (n : ℕ) → n ≡ stations file → after ≡ judged_sheet file n
    → sheet_explained file after n (found_in after n) ≡ sheet_explained file (sheet_of file) n (count (bad (sheet_of file)) n)
unfolding sheet_of
judged_lines file after n en ea =
    let own : after ≡ judged_sheet file (stations file) = ea ∙ ap (λ (m : ℕ). judged_sheet file m) en in
    rw (own, en) (ap (λ (m : ℕ). sheet_explained file (sheet_of file) (stations file) m) (bad_found file))

-- A refused file has its one line,
pub refused_file : (file : List ℕ) → done (length_outcome file) ≡ false → explanation_of file ≡ refused_line (refusal (length_outcome file))
unfolding explanation_of if_done
refused_file file e = rw e

-- any other the lines of its sheet.
pub whole_file : (file : List ℕ) → done (length_outcome file) ≡ true → explanation_of file ≡ sheet_explained file (sheet_of file) (stations file) (count (bad (sheet_of file)) (stations file))
unfolding explanation_of if_done
whole_file file e = rw e
