-- What the calls on a line promise, as relations between what they are given, their answer and what they leave in the lent bytes.
use Rattle.basics.specs.declared.Refusal.{Refusal}
use Rattle.std.specs.Result.{result_unwrap_or}
use Rattle.basics.specs.Outcomes.{Outcome, ends}
use Rattle.std.specs.Prelude.{ℕ, ◌≡◌, List, Result}
use Rattle.station.specs.declared.Station.{Station}
use Rattle.lists.specs.Calls.{line_outcome, station_in_line, write_line_outcome, line_length, written_line, record_listing, listed_length, listed_record, line_filing, filed_line}
use Rattle.lists.specs.declared.ReadLine.{ReadLine}

-- `read_line` on a line: how it ends, and the station that it hands back.
abbrev pub LineRead : List ℕ → ReadLine → Type 0
LineRead t answer = (answer.outcome ≡ line_outcome t) × (answer.station ≡ station_in_line t)

-- `write_line` of a station into a buffer: how it ends, the line's length, 0 where it is refused, and what the buffer holds after it.
abbrev pub LineWritten : Station → List ℕ → Result ℕ Refusal → List ℕ → Type 0
LineWritten s before answer after = (ends answer ≡ write_line_outcome s before) × (result_unwrap_or answer 0 ≡ line_length s before) × (after ≡ written_line s before)

-- `record_to_line` of a record into a buffer: how it ends, the line's length, 0 where it is refused, and what the buffer holds after it.
abbrev pub RecordListed : List ℕ → List ℕ → Result ℕ Refusal → List ℕ → Type 0
RecordListed r before answer after = (ends answer ≡ record_listing r before) × (result_unwrap_or answer 0 ≡ listed_length r before) × (after ≡ listed_record r before)

-- `line_to_record` of a line into 219 lent bytes: how it ends, and what they hold after it.
abbrev pub LineFiled : List ℕ → List ℕ → Outcome → List ℕ → Type 0
LineFiled t before answer after = (answer ≡ line_filing t before) × (after ≡ filed_line t before)
