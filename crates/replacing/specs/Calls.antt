-- Document 01, "Refusal numbers": how replacing ends, and what it hands back and leaves.
use Rattle.std.specs.Prelude.{ℕ, not, List, [], ◌∷◌, ◌++◌, Err}
use Rattle.basics.specs.Outcomes.{if_done, Test, when, first_refusal, record_test, Outcome}
use Rattle.basics.specs.declared.Refusal.TheVariants as why
use Rattle.files.specs.Files.{stations, with_record}
use Rattle.files.specs.Calls.{number_test}
use Rattle.forms.specs.OwnForm.{trailer_fits}
use Rattle.sheet.specs.Calls.{judge_tests}
use Rattle.mending.specs.Replacing.{mended_sheet, rows_written}

-- Replacing asks 4 to 6 after what judging asks. A record of 219 bytes that breaks rules is put in.
abbrev pub trailer_test : List ℕ → List ℕ → Test
trailer_test file sheet = when (not (trailer_fits sheet (stations file))) (Err why.SheetTrailer)

unfoldable pub replace_outcome : List ℕ → List ℕ → ℕ → List ℕ → Outcome
replace_outcome file sheet k r = first_refusal (judge_tests file sheet ++ (trailer_test file sheet ∷ number_test file k ∷ record_test r ∷ []))

-- It leaves the record in the file,
unfoldable pub replaced_file : List ℕ → List ℕ → ℕ → List ℕ → List ℕ
replaced_file file sheet k r = if_done (replace_outcome file sheet k r) (with_record file k r) file

-- the sheet mended,
unfoldable pub replaced_sheet : List ℕ → List ℕ → ℕ → List ℕ → List ℕ
replaced_sheet file sheet k r = if_done (replace_outcome file sheet k r) (mended_sheet (stations file) file sheet k r) sheet

-- and answers the number of rows written; on a refusal 0, and every byte as it was.
unfoldable pub replaced_rows : List ℕ → List ℕ → ℕ → List ℕ → ℕ
replaced_rows file sheet k r = if_done (replace_outcome file sheet k r) (rows_written (stations file) file k r) 0

-- The file and the sheet after a run of replacements, one after the other, refused ones among them.
unfoldable pub after_all : List ℕ × List ℕ → List (ℕ × List ℕ) → List ℕ × List ℕ
after_all s [] = s
after_all s (call ∷ calls) =
    after_all (replaced_file s.0 s.1 call.0 call.1, replaced_sheet s.0 s.1 call.0 call.1) calls
