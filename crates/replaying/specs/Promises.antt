-- What running a trace promises, as a relation between what it is given, its answer and what it leaves in the lent bytes.
use Rattle.std.specs.Prelude.{ℕ, ◌≡◌, List}
use Rattle.sheet.specs.Calls.{judge_outcome}
use Rattle.trace_runs.specs.Replaying.{accepted_in, refused_in, stopped_in, left_by}
use Rattle.replaying.specs.declared.running.Replayed.{Replayed}

-- `replay`: how it ends, its counts, the save that it stopped at, and the file and the sheet that it leaves.
abbrev pub TraceReplayed : List ℕ → List ℕ → List ℕ → Replayed → List ℕ → List ℕ → Type 0
TraceReplayed file sheet trace answer file' sheet' =
    (answer.outcome ≡ judge_outcome file sheet)
    × (answer.accepted ≡ accepted_in file sheet trace)
    × (answer.refused ≡ refused_in file sheet trace)
    × (answer.stopped ≡ stopped_in file sheet trace)
    × (file' ≡ (left_by file sheet trace).0)
    × (sheet' ≡ (left_by file sheet trace).1)
