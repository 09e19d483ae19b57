-- `replaying::running::run_saves` meets its contract: so many saves have run, and what they left stands.
use mathlib.Core.Path.{◌≡◌}
use Prim.Native.Nat.{◌*◌, ◌≤◌}
use lib.ListN.{length}
use Rattle.forms.specs.Counting.{first, count}
use Rattle.sheet.specs.Sheets.{sheet_of}
use Rattle.replacing.specs.Calls.{after_all}
use Rattle.traces.specs.Traces.{save_length, asked}
use Rattle.trace_runs.specs.Replaying.{accepted}
use Rattle.traces.proofs.TraceLaws.{stops}
use Rattle.replaying.proofs.running.run_saves.Given as goal

abbrev pub invariant-loop-ran : goal.invariant-loop-ran
invariant-loop-ran l = (save_length * l.ran ≤ length l.trace) × (length l.file ≡ length l.initial.file) × (length l.sheet ≡ length l.initial.sheet)
    × (l.taken ≤ l.ran) × (l.taken ≡ count (accepted l.initial.file l.trace) l.ran)
    × (first (stops l.trace) l.ran ≡ 0)
    × (l.file ≡ (after_all (l.initial.file, sheet_of l.initial.file) (asked l.trace l.ran)).0)
    × (l.sheet ≡ (after_all (l.initial.file, sheet_of l.initial.file) (asked l.trace l.ran)).1)
