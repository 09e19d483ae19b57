-- `replaying::running::replay` meets its contract: judging's refusal, or the saves run from the judged sheet.
use Rattle.basics.proofs.RefusalLaws.{went_on, stopped}
use Rattle.replaying.proofs.ReplayLaws.{replay_refused, judged-first, replay_done}
use Rattle.replaying.proofs.running.replay.Goals as goal

pub returns-then-is_err : goal.returns-then-is_err
returns-then-is_err c =
    replay_refused c.args.file.now c.args.sheet.now c.args.trace.now c.judge-outcome.ensures.0 c.judge-outcome.ensures.1 (stopped c.judge-outcome.ensures.0 c.is_err.ensures.value c.if-is_err.true)

pub run_saves-requires : goal.run_saves-requires
run_saves-requires c =
    judged-first c.args.file.now c.args.sheet.now c.args.trace.now c.judge-outcome.ensures.1 (went_on c.judge-outcome.ensures.0 c.is_err.ensures.value c.if-is_err.false)

pub returns : goal.returns
returns c =
    let d = went_on c.judge-outcome.ensures.0 c.is_err.ensures.value c.if-is_err.false in
    let first = judged-first c.args.file.now c.args.sheet.now c.args.trace.now c.judge-outcome.ensures.1 d in
    replay_done c.args.file.now c.args.sheet.now c.args.trace.now _ d first.1 c.run_saves.ensures.outcome_value c.run_saves.ensures.accepted_value c.run_saves.ensures.refused_value c.run_saves.ensures.stopped_value c.run_saves.ensures.file_after c.run_saves.ensures.sheet_after
