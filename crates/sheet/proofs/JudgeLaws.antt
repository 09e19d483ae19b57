-- How judging ends: what no refusal tells, and what it leaves.
use Rattle.std.specs.Prelude.{Ok}
use mathlib.Core.Path.{◌≡◌, refl, sym, ◌∙◌, subst}
use mathlib.Core.Bool.{true, false}
use mathlib.Core.List.{List}
use Prim.Native.Nat.{ℕ}
use lib.ListN.{length}
use borrow.Author.Tests.{eqb-true, not-false}
use Rattle.basics.specs.Outcomes.{refusal, if_done, Outcome}
use Rattle.basics.proofs.RefusalLaws.{done, done_is, NoneApplies, none_applies}
use Rattle.files.specs.Files.{stations}
use Rattle.files.proofs.LengthLaws.{whole_records}
use Rattle.forms.specs.OwnForm.{sheet_length}
use Rattle.sheet.specs.Sheets.{judged_sheet, sheet_of}
use Rattle.sheet.specs.Calls.{judge_tests, judge_outcome, judged_into}
use Rattle.sheet.specs.Promises.{Sized, SheetJudged}

module _ (file sheet : List ℕ) where
  -- Judging that is done has a file of n stations and a sheet for them.
  pub both_sized : NoneApplies (judge_tests file sheet) → Sized file sheet (stations file)
  both_sized none =
      let f = whole_records file (none.0, (none.1.0, tt)) in
      record { most = f.0; file_size = f.1; sheet_size = eqb-true (length sheet) (sheet_length (stations file)) (not-false _ none.1.1.0) }

  pub judge_passed : done (judge_outcome file sheet) ≡ true → NoneApplies (judge_tests file sheet)
  unfolding judge_outcome refusal
  judge_passed t = none_applies (judge_tests file sheet) refl t

  pub judge_sized_up : done (judge_outcome file sheet) ≡ true → Sized file sheet (stations file)
  judge_sized_up t = both_sized (judge_passed t)

  -- Judging that is refused leaves the sheet as it was,
  pub judge_refused : {o : Outcome} → o ≡ judge_outcome file sheet → done o ≡ false → SheetJudged file sheet o sheet
  unfolding judged_into if_done
  judge_refused e f = (e, sym (rw (← e, f)))

  -- and judging that is done the sheet of the file.
  pub judge_done : {after : List ℕ} → done (judge_outcome file sheet) ≡ true → after ≡ judged_sheet file (stations file) → SheetJudged file sheet (Ok tt) after
  unfolding judged_into if_done sheet_of
  judge_done t e = (sym (done_is (judge_outcome file sheet) t), e ∙ sym (rw t))

-- The sizes, at a number of stations that was found.
pub sized_at : {file sheet : List ℕ} {n : ℕ} → n ≡ stations file → Sized file sheet (stations file) → Sized file sheet n
sized_at {file} {sheet} e s = subst (λ (m : ℕ). Sized file sheet m) (sym e) s
