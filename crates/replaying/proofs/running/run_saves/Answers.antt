-- `replaying::running::run_saves` meets its contract: so many saves have run, and what they left stands.
use mathlib.Core.Bool.{true, false, not}
use mathlib.Core.Path.{◌≡◌, refl, sym, ap, ◌∙◌}
use mathlib.Core.List.{List}
use Prim.Native.Nat.{ℕ, ◌+◌, ◌-◌, ◌*◌, ◌≤◌, ◌<◌}
use lib.ListN.{length}
use Rattle.std.specs.Int.{div_ceil}
use Rattle.basics.proofs.RefusalLaws.{done_is}
use native.Mathlib.Omega.{arith}
use Rattle.forms.proofs.CountLaws.{first_missed}
use Rattle.sheet.proofs.JudgeLaws.{judge_passed}
use Rattle.replacing.specs.Calls.{after_all}
use Rattle.traces.specs.Traces.{save_length, save_at, can_run, asked}
use Rattle.traces.proofs.TraceLaws.{stops, save-after, one_more, no_more, stopped_there, ran_all, save-whole, runs_within}
use Rattle.trace_runs.proofs.RunLaws.{turn, run_told}
use borrow.Author.Rules.{rules}
use Rattle.replaying.proofs.running.run_saves.Goals as goal

-- before the last save that begins the trace goes further,
further : (trace : List ℕ) (i : ℕ) → i < div_ceil (length trace) save_length → save_length * i < length trace
further trace i h = omega arith

-- and behind it no further.
no_further : (trace : List ℕ) (i : ℕ) → save_length * i ≤ length trace → i ≡ div_ceil (length trace) save_length → length trace ≡ save_length * i
no_further trace i h e = omega arith

pub loop-ran-init : goal.loop-ran-init
unfolding after_all asked
loop-ran-init c = (search rules, search rules, search rules, search rules, search rules, search rules, refl, c.requires.0)

pub returns-then-not-can_run : goal.returns-then-not-can_run
returns-then-not-can_run c =
    let file = c.args.file.now in
    let trace = c.args.trace.now in
    let here = save-after trace c.loop-ran.ran _ refl in
    let bad : can_run (save_at trace (c.loop-ran.ran + 1)) ≡ false = rw (← here) (ap can_run (sym c.save_from-save.ensures) ∙ sym c.can_run.ensures ∙ c.if-not-can_run.true) in
    let stop = stopped_there trace c.loop-ran.ran c.loop-ran.invariant.5 (one_more trace c.loop-ran.ran (further trace c.loop-ran.ran (rw (← c.div_ceil-saves.ensures) c.loop-ran-test.true))) bad in
    let told = run_told file trace c.loop-ran.ran stop.1 stop.0 c.loop-ran.invariant.4 c.loop-ran.invariant.6 c.loop-ran.invariant.7 in
    record {
      outcome_value = sym (done_is _ c.requires.1);
      accepted_value = told.0;
      refused_value = told.1;
      stopped_value = told.2;
      file_after = told.3;
      sheet_after = told.4;
    }

pub run_save-taken-requires : goal.run_save-taken-requires
run_save-taken-requires c = save-whole _ (sym c.can_run.ensures ∙ c.if-not-can_run.false)

pub overflow_add-taken : goal.overflow_add-taken
overflow_add-taken c = omega (arith, c.run_save-taken.ensures.upper_bound)

pub loop-ran-preserved : goal.loop-ran-preserved
loop-ran-preserved c =
    let file = c.args.file.now in
    let trace = c.args.trace.now in
    let ran = c.loop-ran.ran in
    let here = c.save_from-save.ensures ∙ save-after trace ran _ refl in
    let runs = sym c.can_run.ensures ∙ c.if-not-can_run.false in
    let fine = judge_passed file c.args.sheet.now c.requires.1 in
    let next = turn file trace ran (fine.0, (fine.1.0, tt)) here runs c.loop-ran.invariant.6 c.loop-ran.invariant.7 c.loop-ran.invariant.4 c.run_save-taken.ensures.value c.run_save-taken.ensures.file_after c.run_save-taken.ensures.sheet_after in
    let room : save_length * ran + save_length ≤ length trace = runs_within trace (save_length * ran) c.loop-ran.invariant.0 (rw (← c.save_from-save.ensures) runs) in (
      omega (arith, room),
      search rules,
      search rules,
      omega (arith, c.loop-ran.invariant.3, c.run_save-taken.ensures.upper_bound),
      next.0,
      first_missed (stops trace) ran ran c.loop-ran.invariant.5 (ap not (rw here at runs)),
      next.1,
      next.2,
    )

pub returns : goal.returns
returns c =
    let file = c.args.file.now in
    let trace = c.args.trace.now in
    let all : c.loop-ran.ran ≡ c.div_ceil-saves.result = omega arith in
    let end : length trace ≡ save_length * c.loop-ran.ran = no_further trace c.loop-ran.ran c.loop-ran.invariant.0 (all ∙ c.div_ceil-saves.ensures) in
    let stop = ran_all trace c.loop-ran.ran c.loop-ran.invariant.5 (no_more trace c.loop-ran.ran end) in
    let told = run_told file trace c.loop-ran.ran stop.1 stop.0 c.loop-ran.invariant.4 c.loop-ran.invariant.6 c.loop-ran.invariant.7 in
    record {
      outcome_value = sym (done_is _ c.requires.1);
      accepted_value = told.0;
      refused_value = rw (← all) told.1;
      stopped_value = told.2;
      file_after = told.3;
      sheet_after = told.4;
    }
