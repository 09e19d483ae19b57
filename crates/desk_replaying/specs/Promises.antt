-- What the call that runs the day again promises to callers in C, as a relation between what it is given, its answer and what it leaves in
-- every lent byte and number.
use Rattle.std.specs.Prelude.{ℕ, ◌≡◌, List}
use Rattle.basics.specs.Outcomes.{refusal}
use Rattle.sheet.specs.Calls.{judge_outcome}
use Rattle.trace_runs.specs.Replaying.{accepted_in, refused_in, stopped_in, left_by}

-- `desk_replay` of a trace from a file.
abbrev pub FilingReplayed : List ℕ → List ℕ → List ℕ → ℕ → ℕ → ℕ → ℕ → List ℕ → List ℕ → Type 0
FilingReplayed file sheet trace answer accepted refused stopped file' sheet' =
    (answer ≡ refusal (judge_outcome file sheet))
    × (accepted ≡ accepted_in file sheet trace)
    × (refused ≡ refused_in file sheet trace)
    × (stopped ≡ stopped_in file sheet trace)
    × (file' ≡ (left_by file sheet trace).0)
    × (sheet' ≡ (left_by file sheet trace).1)
