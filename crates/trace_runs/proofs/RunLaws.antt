-- Saves run one after the other from a list and the sheet judged from it: what each leaves, and whether it is accepted.
use Rattle.std.specs.Prelude.{Ok, Err, Result}
use mathlib.Core.Path.{◌≡◌, refl, sym, ap, ◌∙◌}
use mathlib.Core.Bool.{Bool, true, false, cond, not}
use mathlib.Core.List.{List, [], ◌∷◌, ◌++◌}
use Prim.Native.Nat.{ℕ, zero, suc, ◌+◌, ◌-◌}
use native.Mathlib.Omega.{arith}
use lib.Dec.{ltb}
use lib.ListN.{length, take, drop, length-drop}
use native.Mathlib.Numerals.{add-one}
use borrow.Author.Tests.{eq-eqb}
use Rattle.numerals.specs.Numbers.{whole_of, amount}
use Rattle.basics.specs.Fields.{record_length}
use Rattle.basics.specs.Outcomes.{refusal, first_refusal, record_test, Outcome, ends}
use Rattle.basics.specs.declared.Refusal.TheVariants as why
use Rattle.basics.proofs.RefusalLaws.{done, asked-on, NoneApplies}
use Rattle.files.specs.Files.{stations}
use Rattle.files.specs.Calls.{file_tests, number_test}
use Rattle.forms.specs.Counting.{count}
use Rattle.sheet.specs.Sheets.{sheet_of}
use Rattle.replacing.specs.Calls.{replace_outcome, replaced_file, replaced_sheet, after_all}
use Rattle.replacing.specs.Promises.{RecordReplaced}
use Rattle.basics.specs.declared.Refusal.{Refusal}
use Rattle.replacing.proofs.Demand3.{after_any_run}
use Rattle.replacing.proofs.EitherOrder.{judged_end, judged_end_lem, taken, taken_by_length}
use Rattle.replacing.proofs.AnyOrder.{Call, run_keeps_length}
use Rattle.traces.specs.Traces.{saved_digits, save_at, saved_number, saved_record, can_run, stops_at, ran_of, asked}
use Rattle.trace_runs.specs.Replaying.{accepted, above_all, day_after}
use Rattle.traces.proofs.TraceLaws.{call, asked_one, save-whole}

-- A run and another after it are one run.
pub after_both : (s : List ℕ × List ℕ) (xs ys : List Call) → after_all s (xs ++ ys) ≡ after_all (after_all s xs) ys
unfolding after_all
after_both s [] ys = refl
after_both s (x ∷ xs) ys = after_both (replaced_file s.0 s.1 x.0 x.1, replaced_sheet s.0 s.1 x.0 x.1) xs ys

-- How many pass and how many do not are all.
pub count_both : (p : ℕ → Bool) (n : ℕ) → count (λ i. not (p i)) n + count p n ≡ n
count_both p zero = refl
count_both p (suc n) = by (p (suc n)) (count_both p n)
  where
    by : (b : Bool) → count (λ i. not (p i)) n + count p n ≡ n → (count (λ i. not (p i)) n + cond (not b) 1 0) + (count p n + cond b 1 0) ≡ suc n
    by true x = omega (arith, x)
    by false x = omega (arith, x)

-- The record of a save that runs is whole.
record_whole : (save : List ℕ) → can_run save ≡ true → length (saved_record save) ≡ record_length
unfolding saved_record
record_whole save e = let l = save-whole save e in length-drop saved_digits save ∙ omega (arith, l)

-- A list whose length is right takes a record where its number is not above n.
taken_at : (file : List ℕ) (k : ℕ) (r : List ℕ) → NoneApplies (file_tests file) → length r ≡ record_length → taken file k r ≡ not (ltb (stations file) k)
unfolding first_refusal refusal
taken_at file k r fine size =
    ap done (asked-on (file_tests file) (number_test file k ∷ record_test r ∷ []) fine) ∙ rw (eq-eqb (length r) record_length size) (by (ltb (stations file) k))
  where
    by : (b : Bool) → done (cond b (Err why.NoSuchRecord) (Ok tt)) ≡ not b
    by true = refl
    by false = refl

module _ (file : List ℕ) (fine : NoneApplies (file_tests file)) (calls : List Call) (k : ℕ) (r : List ℕ) (size : length r ≡ record_length) where
  abbrev now_file : List ℕ
  now_file = (after_all (file, sheet_of file) calls).0

  abbrev now_sheet : List ℕ
  now_sheet = (after_all (file, sheet_of file) calls).1

  -- So does one that any run has left, and the record is accepted.
  pub accepted_so : done (replace_outcome now_file now_sheet k r) ≡ not (ltb (stations file) k)
  accepted_so =
      let judged : now_sheet ≡ sheet_of now_file = after_any_run calls file (sheet_of file) refl in
      ap (λ (s : List ℕ). done (replace_outcome now_file s k r)) judged
      ∙ ap done (judged_end_lem now_file k r)
      ∙ taken_by_length file k r now_file (run_keeps_length file calls)
      ∙ taken_at file k r fine size

-- A replacement of the record that a save has, by the save's number.
pub as_saved : (file sheet : List ℕ) {f s r : List ℕ} {k : ℕ} (answer : Result ℕ Refusal) (save : List ℕ) → k ≡ amount (whole_of (take saved_digits save)) → r ≡ drop saved_digits save
    → RecordReplaced file sheet k r answer f s
    → (done (ends answer) ≡ done (replace_outcome file sheet (saved_number save) (saved_record save)))
    × (f ≡ replaced_file file sheet (saved_number save) (saved_record save))
    × (s ≡ replaced_sheet file sheet (saved_number save) (saved_record save))
unfolding saved_number saved_record
as_saved file sheet answer save ek er h = rw (← ek, ← er) (ap done h.0, h.2, h.3)

-- It is told as 1 where it is taken, and as 0 where not.
pub told_taken : {b c d : Bool} → c ≡ b → d ≡ c → d ≡ true → ◌≡◌ {A = ℕ} 1 (cond b 1 0)
told_taken e x y = rw (← e, ← x, y)

pub told_refused : {b c d : Bool} → c ≡ b → d ≡ c → d ≡ false → ◌≡◌ {A = ℕ} 0 (cond b 1 0)
told_refused e x y = rw (← e, ← x, y)

-- What the saves before have left, and then save i + 1:
module _ (file trace : List ℕ) (i : ℕ) where
  abbrev pub state : List ℕ × List ℕ
  state = after_all (file, sheet_of file) (asked trace i)

  -- a replacement leaves the next state,
  pub next_state : after_all (file, sheet_of file) (asked trace (i + 1))
      ≡ (
        replaced_file state.0 state.1 (saved_number (save_at trace (i + 1))) (saved_record (save_at trace (i + 1))),
        replaced_sheet state.0 state.1 (saved_number (save_at trace (i + 1))) (saved_record (save_at trace (i + 1))),
      )
  unfolding after_all
  next_state = rw (asked_one trace i) (after_both (file, sheet_of file) (asked trace i) (call trace (i + 1) ∷ []))

  -- and counts where it is taken.
  pub next_count : NoneApplies (file_tests file) → can_run (save_at trace (i + 1)) ≡ true
      → count (accepted file trace) (i + 1)
      ≡ count (accepted file trace) i + cond (done (replace_outcome state.0 state.1 (saved_number (save_at trace (i + 1))) (saved_record (save_at trace (i + 1))))) 1 0
  next_count fine runs =
      let so = accepted_so file fine (asked trace i) (saved_number (save_at trace (i + 1))) (saved_record (save_at trace (i + 1))) (record_whole (save_at trace (i + 1)) runs) in
      rw (so, add-one i)

  -- so that a turn more has run.
  pub turn : {f s g x save : List ℕ} {taken one : ℕ} → NoneApplies (file_tests file) → save ≡ save_at trace (i + 1) → can_run save ≡ true
      → f ≡ state.0 → s ≡ state.1 → taken ≡ count (accepted file trace) i
      → one ≡ cond (done (replace_outcome f s (saved_number save) (saved_record save))) 1 0
      → g ≡ replaced_file f s (saved_number save) (saved_record save)
      → x ≡ replaced_sheet f s (saved_number save) (saved_record save)
      → (taken + one ≡ count (accepted file trace) (i + 1))
      × (g ≡ (after_all (file, sheet_of file) (asked trace (i + 1))).0)
      × (x ≡ (after_all (file, sheet_of file) (asked trace (i + 1))).1)
  turn fine here runs ef es told one_told left-file left-sheet =
      let runs-there : can_run (save_at trace (i + 1)) ≡ true = rw here at runs in (
        rw (told, one_told, ef, es, here) (sym (next_count fine runs-there)),
        left-file ∙ rw (ef, es, here) (ap (λ (z : List ℕ × List ℕ). z.0) (sym next_state)),
        left-sheet ∙ rw (ef, es, here) (ap (λ (z : List ℕ × List ℕ). z.1) (sym next_state)),
      )

  -- Where no more run, this is what is told and left.
  pub run_told : {taken stopped : ℕ} {f s : List ℕ} → i ≡ ran_of trace → stopped ≡ stops_at trace → taken ≡ count (accepted file trace) i → f ≡ state.0 → s ≡ state.1
      → (taken ≡ count (accepted file trace) (ran_of trace))
      × (i - taken ≡ count (above_all file trace) (ran_of trace))
      × (stopped ≡ stops_at trace)
      × (f ≡ (day_after file trace).0)
      × (s ≡ (day_after file trace).1)
  unfolding day_after
  run_told e stop told left-file left-sheet =
      rw (← e) (told, omega (arith, told, count_both (above_all file trace) i), stop, left-file, left-sheet)
