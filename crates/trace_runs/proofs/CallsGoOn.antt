-- The call stopped after any save and made again on what it left: states the same, counts added up.
use mathlib.Core.Path.{◌≡◌, refl, sym, ap, ◌∙◌}
use mathlib.Core.Bool.{Bool, true, false, not}
use mathlib.Core.List.{List, ◌++◌}
use Prim.Native.Nat.{ℕ, ◌+◌, ◌*◌}
use lib.Dec.{ltb}
use lib.ListN.{length}
use Rattle.basics.specs.Outcomes.{if_done}
use Rattle.basics.proofs.RefusalLaws.{done}
use Rattle.files.specs.Files.{stations, too_long, not_records}
use Rattle.forms.specs.Counting.{count}
use Rattle.sheet.specs.Sheets.{sheet_of, judged_sheet}
use Rattle.sheet.specs.Calls.{judge_outcome}
use Rattle.sheet.proofs.SheetLaws.{judged-length}
use Rattle.sheet.proofs.JudgeLaws.{judge_sized_up}
use Rattle.replacing.proofs.Demand3.{after_any_run}
use Rattle.replacing.proofs.AnyOrder.{run_keeps_length}
use Rattle.traces.specs.Traces.{save_length, save_at, saved_number, stops_at, ran_of, asked}
use Rattle.trace_runs.specs.Replaying.{day_after, accepted_in, refused_in, stopped_in, left_by}
use Rattle.trace_runs.proofs.GoingOn.{behind, stops-behind, counts_add, day_goes_on}

-- The sheet left is the one judged from the list left.
pub left-judged : (file trace : List ℕ) → (day_after file trace).1 ≡ sheet_of (day_after file trace).0
unfolding day_after
left-judged file trace = after_any_run (asked trace (ran_of trace)) file (sheet_of file) refl

-- What a day leaves is as long as what it began with,
day_keeps_length : (file trace : List ℕ) → length (day_after file trace).0 ≡ length file
unfolding day_after
day_keeps_length file trace = run_keeps_length file (asked trace (ran_of trace))

day_stations : (file trace : List ℕ) → stations (day_after file trace).0 ≡ stations file
unfolding stations
day_stations file trace = rw (day_keeps_length file trace)

-- so that the call on it is refused or not as the first was.
judge_by_lengths : (file sheet f s : List ℕ) → length f ≡ length file → length s ≡ length sheet → judge_outcome f s ≡ judge_outcome file sheet
unfolding judge_outcome too_long not_records stations
judge_by_lengths file sheet f s e h = rw (e, h)

still_done : (file sheet trace : List ℕ) → done (judge_outcome file sheet) ≡ true → done (judge_outcome (day_after file trace).0 (day_after file trace).1) ≡ true
unfolding sheet_of
still_done file sheet trace d =
    let size : length (day_after file trace).1 ≡ length sheet
    = ap length (left-judged file trace) ∙ judged-length (day_after file trace).0 (stations (day_after file trace).0) ∙ rw (day_stations file trace) (sym (judge_sized_up file sheet d).sheet_size) in
    ap done (judge_by_lengths file sheet (day_after file trace).0 (day_after file trace).1 (day_keeps_length file trace) size) ∙ d

-- Whole saves that all run, and then any trace, on what was left:
module _ (file sheet a b : List ℕ) (m : ℕ) (whole : length a ≡ save_length * m) (runs : stops_at a ≡ 0) where
  abbrev left : List ℕ × List ℕ
  left = left_by file sheet a

  -- the list and the sheet are those of both in one call,
  pub same_left : left_by left.0 left.1 b ≡ left_by file sheet (a ++ b)
  unfolding left_by if_done
  same_left = by (done (judge_outcome file sheet)) refl
    where
      by : (d : Bool) → done (judge_outcome file sheet) ≡ d → left_by left.0 left.1 b ≡ left_by file sheet (a ++ b)
      by true e = rw (e, still_done file sheet a e) (sym (day_goes_on a b m whole runs file))
      by false e = rw (e, e)

  counted_later : (q : ℕ → ℕ → Bool)
      → count (λ i. q (stations file) (saved_number (save_at a i))) (ran_of a) + count (λ i. q (stations (day_after file a).0) (saved_number (save_at b i))) (ran_of b)
      ≡ count (λ i. q (stations file) (saved_number (save_at (a ++ b) i))) (ran_of (a ++ b))
  counted_later q =
      ap (λ (n : ℕ). count (λ i. q (stations file) (saved_number (save_at a i))) (ran_of a) + count (λ i. q n (saved_number (save_at b i))) (ran_of b)) (day_stations file a)
      ∙ sym (counts_add a b m whole runs (q (stations file)))

  -- accepted
  pub accepted_add : accepted_in file sheet a + accepted_in left.0 left.1 b ≡ accepted_in file sheet (a ++ b)
  unfolding accepted_in left_by if_done
  accepted_add = by (done (judge_outcome file sheet)) refl
    where
      by : (d : Bool) → done (judge_outcome file sheet) ≡ d → accepted_in file sheet a + accepted_in left.0 left.1 b ≡ accepted_in file sheet (a ++ b)
      by true e = rw (e, still_done file sheet a e) (counted_later (λ n x. not (ltb n x)))
      by false e = rw (e, e)

  -- and refused saves add up,
  pub refused_add : refused_in file sheet a + refused_in left.0 left.1 b ≡ refused_in file sheet (a ++ b)
  unfolding refused_in left_by if_done
  refused_add = by (done (judge_outcome file sheet)) refl
    where
      by : (d : Bool) → done (judge_outcome file sheet) ≡ d → refused_in file sheet a + refused_in left.0 left.1 b ≡ refused_in file sheet (a ++ b)
      by true e = rw (e, still_done file sheet a e) (counted_later ltb)
      by false e = rw (e, e)

  -- and the save that it stops at is counted through both.
  pub stopped_behind : behind m (stopped_in left.0 left.1 b) ≡ stopped_in file sheet (a ++ b)
  unfolding stopped_in left_by if_done
  stopped_behind = by (done (judge_outcome file sheet)) refl
    where
      by : (d : Bool) → done (judge_outcome file sheet) ≡ d → behind m (stopped_in left.0 left.1 b) ≡ stopped_in file sheet (a ++ b)
      by true e = rw (e, still_done file sheet a e) (sym (stops-behind a b m whole runs))
      by false e = rw (e, e)
