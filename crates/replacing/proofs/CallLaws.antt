-- How replacing ends: what no refusal tells, and what it leaves.
use Rattle.basics.specs.declared.Refusal.{Refusal}
use Rattle.std.specs.Result.{result_unwrap_or}
use Rattle.std.specs.Prelude.{Ok, Result}
use mathlib.Core.Path.{◌≡◌, refl, sym, ap, ◌∙◌}
use mathlib.Core.Bool.{true, false}
use mathlib.Core.List.{List, [], ◌∷◌, ◌++◌}
use Prim.Native.Nat.{ℕ, ◌+◌, ◌*◌, ◌≤◌}
use native.Mathlib.Omega.{arith}
use lib.ListN.{length}
use borrow.Author.Tests.{eqb-true, ltb-false, not-false}
use Rattle.basics.specs.Outcomes.{refusal, if_done, Test, first_refusal, record_test, Outcome, ends}
use Rattle.basics.proofs.RefusalLaws.{done, done_is, none_applies, asked-on}
use Rattle.files.specs.Files.{stations, with_record}
use Rattle.files.specs.Calls.{number_test}
use Rattle.files.proofs.ReplacedLaws.{replaced_stations}
use Rattle.sheet.specs.Sheets.{judged_sheet, sheet_of}
use Rattle.sheet.specs.Calls.{judge_tests, judge_outcome}
use Rattle.sheet.specs.Promises.{Sized}
use Rattle.sheet.proofs.JudgeLaws.{both_sized, judge_passed}
use Rattle.mending.specs.Replacing.{mended_sheet, rows_written}
use Rattle.replacing.specs.Calls.{trailer_test, replace_outcome, replaced_file, replaced_sheet, replaced_rows}
use Rattle.replacing.specs.Promises.{RecordReplaced, StillJudged}
use Rattle.replacing.proofs.MendLaws.{mended_sheet_lem}

-- a judged sheet, mended, is judged, with as many stations as before
pub still_judged : (file : List ℕ) (k : ℕ) (r : List ℕ) (n : ℕ) → length file ≡ 219 * n + 219 → k ≤ n → length r ≡ 219 → n ≡ stations file
    → mended_sheet n file (sheet_of file) k r ≡ sheet_of (with_record file k r)
unfolding sheet_of
still_judged file k r n fits low size e =
    ap (λ (m : ℕ). mended_sheet n file (judged_sheet file m) k r) (sym e)
    ∙ mended_sheet_lem file k r n fits low size
    ∙ ap (λ (m : ℕ). judged_sheet (with_record file k r) m) (e ∙ sym (replaced_stations file k r (omega arith) size))

-- A file, a sheet and a record that a replacement takes.
pub record Allowed (file sheet : List ℕ) (k : ℕ) (r : List ℕ) : Type 0 where
  pub sizes : Sized file sheet (stations file)
  pub within : k ≤ stations file
  pub size : length r ≡ 219

module _ (file sheet : List ℕ) (k : ℕ) (r : List ℕ) where
  -- what replacing asks after judging
  abbrev pub further : List Test
  further = trailer_test file sheet ∷ number_test file k ∷ record_test r ∷ []

  -- where judging is done it is asked
  pub goes_further : done (judge_outcome file sheet) ≡ true → replace_outcome file sheet k r ≡ first_refusal further
  unfolding replace_outcome
  goes_further t = asked-on (judge_tests file sheet) further (judge_passed file sheet t)

  pub allowed : done (replace_outcome file sheet k r) ≡ true → Allowed file sheet k r
  unfolding replace_outcome refusal
  allowed t =
      let none = none_applies (judge_tests file sheet ++ further) refl t in
      record {
        sizes = both_sized file sheet (none.0, (none.1.0, (none.1.1.0, tt)));
        within = ltb-false (stations file) k none.1.1.1.1.0;
        size = eqb-true (length r) 219 (not-false _ none.1.1.1.1.1.0);
      }

  -- A replacement that is refused leaves every byte as it was,
  pub replace_refused : (answer : Result ℕ Refusal) → ends answer ≡ replace_outcome file sheet k r → result_unwrap_or answer 0 ≡ 0 → done (replace_outcome file sheet k r) ≡ false
      → RecordReplaced file sheet k r answer file sheet × StillJudged file sheet file sheet
  unfolding replaced_rows replaced_file replaced_sheet if_done
  replace_refused answer e v f = ((e, v ∙ sym (rw f), sym (rw f), sym (rw f)), λ q. q)

  -- and one that is done the new record and the mended sheet.
  pub replace_done : {w : ℕ} {file' sheet' : List ℕ} → done (replace_outcome file sheet k r) ≡ true
      → w ≡ rows_written (stations file) file k r → file' ≡ with_record file k r → sheet' ≡ mended_sheet (stations file) file sheet k r
      → RecordReplaced file sheet k r (Ok w) file' sheet' × StillJudged file sheet file' sheet'
  unfolding replaced_rows replaced_file replaced_sheet if_done
  replace_done t ew ef es =
      let may : Allowed file sheet k r = allowed t in
      let again : mended_sheet (stations file) file (sheet_of file) k r ≡ sheet_of (with_record file k r) = still_judged file k r (stations file) may.sizes.file_size may.within may.size refl in
      ((sym (done_is (replace_outcome file sheet k r) t), ew ∙ sym (rw t), ef ∙ sym (rw t), es ∙ sym (rw t)), λ q. es ∙ rw (q, ef) again)
