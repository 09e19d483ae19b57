-- Document 02, wish 11: what running a trace from the morning's list leaves and tells.
use Rattle.std.specs.Prelude.{ℕ, Bool, not, List, ltb}
use Rattle.basics.specs.Outcomes.{if_done}
use Rattle.files.specs.Files.{stations}
use Rattle.forms.specs.Counting.{count}
use Rattle.sheet.specs.Sheets.{sheet_of}
use Rattle.sheet.specs.Calls.{judge_outcome}
use Rattle.replacing.specs.Calls.{after_all}
use Rattle.traces.specs.Traces.{save_at, saved_number, stops_at, ran_of, asked}

-- The list is judged, and then the saves that run are put in one after the other, as single replacements.
unfoldable pub day_after : List ℕ → List ℕ → List ℕ × List ℕ
day_after file trace = after_all (file, sheet_of file) (asked trace (ran_of trace))

-- Save i is refused where its number is above n, and else accepted.
abbrev pub above_all : List ℕ → List ℕ → ℕ → Bool
above_all file trace i = ltb (stations file) (saved_number (save_at trace i))

abbrev pub accepted : List ℕ → List ℕ → ℕ → Bool
accepted file trace i = not (above_all file trace i)

-- Running is refused as judging is, with all counts 0 and every byte as it was.
unfoldable pub accepted_in : List ℕ → List ℕ → List ℕ → ℕ
accepted_in file sheet trace = if_done (judge_outcome file sheet) (count (accepted file trace) (ran_of trace)) 0

unfoldable pub refused_in : List ℕ → List ℕ → List ℕ → ℕ
refused_in file sheet trace = if_done (judge_outcome file sheet) (count (above_all file trace) (ran_of trace)) 0

unfoldable pub stopped_in : List ℕ → List ℕ → List ℕ → ℕ
stopped_in file sheet trace = if_done (judge_outcome file sheet) (stops_at trace) 0

unfoldable pub left_by : List ℕ → List ℕ → List ℕ → List ℕ × List ℕ
left_by file sheet trace = if_done (judge_outcome file sheet) (day_after file trace) (file, sheet)
