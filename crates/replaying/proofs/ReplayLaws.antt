-- The call: refused as judging is, or the list judged and the saves run on it.
use mathlib.Core.Path.{◌≡◌, refl, sym, ap, ◌∙◌}
use mathlib.Core.Bool.{true, false}
use mathlib.Core.List.{List}
use Prim.Native.Nat.{ℕ}
use lib.ListN.{length}
use Rattle.basics.specs.Outcomes.{if_done, first_refusal, Outcome}
use Rattle.basics.proofs.RefusalLaws.{done, done_is, if_done_lem}
use Rattle.files.specs.Files.{stations}
use Rattle.forms.specs.Counting.{count}
use Rattle.sheet.specs.Sheets.{sheet_of, judged_sheet}
use Rattle.sheet.specs.Calls.{judge_outcome, judged_into}
use Rattle.sheet.proofs.SheetLaws.{judged-length}
use Rattle.sheet.proofs.JudgeLaws.{judge_sized_up}
use Rattle.traces.specs.Traces.{stops_at, ran_of}
use Rattle.trace_runs.specs.Replaying.{accepted, above_all, day_after, accepted_in, refused_in, stopped_in, left_by}
use Rattle.replaying.specs.Promises.{TraceReplayed}
use Rattle.replaying.specs.declared.running.Replayed.{Replayed}

-- Judging asks of a sheet its length alone.
judge_by_length : (file sheet x : List ℕ) → length x ≡ length sheet → judge_outcome file x ≡ judge_outcome file sheet
unfolding judge_outcome
judge_by_length file sheet x e = rw e

module _ (file sheet trace : List ℕ) where
  -- A refusal is told with all counts 0, and leaves every byte as it was.
  pub replay_refused : {o : Outcome} {x : List ℕ} → o ≡ judge_outcome file sheet → x ≡ judged_into file sheet → done (judge_outcome file sheet) ≡ false
      → TraceReplayed file sheet trace (record { outcome = o; accepted = 0; refused = 0; stopped = 0 }) file x
  unfolding accepted_in refused_in stopped_in left_by judged_into if_done
  replay_refused e left r = (e, rw r, rw r, rw r, rw r, left ∙ rw r)

  -- Else the sheet is judged, and would be again,
  pub judged-first : {x : List ℕ} → x ≡ judged_into file sheet → done (judge_outcome file sheet) ≡ true → (x ≡ sheet_of file) × (done (judge_outcome file x) ≡ true)
  unfolding judged_into sheet_of
  judged-first left d =
      let judged = left ∙ if_done_lem (judge_outcome file sheet) (sheet_of file) sheet d in
      let size = judge_sized_up file sheet d in
      (judged, rw judged (ap done (judge_by_length file sheet (sheet_of file) (judged-length file (stations file) ∙ sym size.sheet_size)) ∙ d))

  -- and what running the saves tells and leaves is the call's.
  pub replay_done : (x : List ℕ) {f s : List ℕ} {r : Replayed} → done (judge_outcome file sheet) ≡ true → done (judge_outcome file x) ≡ true
      → r.outcome ≡ judge_outcome file x
      → r.accepted ≡ count (accepted file trace) (ran_of trace)
      → r.refused ≡ count (above_all file trace) (ran_of trace)
      → r.stopped ≡ stops_at trace
      → f ≡ (day_after file trace).0
      → s ≡ (day_after file trace).1
      → TraceReplayed file sheet trace r f s
  unfolding accepted_in refused_in stopped_in left_by if_done
  replay_done x d again e took above stop left-file left-sheet =
      (e ∙ done_is (judge_outcome file x) again ∙ sym (done_is (judge_outcome file sheet) d), rw d took, rw d above, rw d stop, rw d left-file, rw d left-sheet)
