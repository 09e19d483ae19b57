-- Document 02, wish 1: how reading and writing a line end, and what they hand back and leave.
use Rattle.std.specs.Prelude.{ℕ, not, List, [], ◌∷◌, ◌++◌, length, drop, leb, Err}
use Rattle.basics.specs.Outcomes.{if_done, Test, when, first_refusal, record_test, buffer_test, rule_test, Outcome}
use Rattle.basics.specs.declared.Refusal.TheVariants as why
use Rattle.station.specs.Places.{station_places}
use Rattle.station.specs.Values.{empty_station}
use Rattle.station.specs.Codes.{value_of, station_code, typed_code}
use Rattle.station.specs.Spelling.{spell_station}
use Rattle.station.specs.declared.Station.{Station}
use Rattle.semicolons.specs.Fields.{none_longer}
use Rattle.semicolons.specs.Lines.{line_of, line_fields, is_line, record_of}

-- Reading a line asks 10, 11 and 9, in that order.
abbrev pub line_tests : List ℕ → List Test
line_tests t =
    when (not (is_line t)) (Err why.NotALine)
    ∷ when (not (none_longer station_places (line_fields t))) (Err why.FieldTooLong)
    ∷ rule_test (station_code (record_of t))
    ∷ []

unfoldable pub line_outcome : List ℕ → Outcome
line_outcome t = first_refusal (line_tests t)

-- It returns the station, and the empty one on a refusal.
unfoldable pub station_in_line : List ℕ → Station
station_in_line t = if_done (line_outcome t) (value_of (record_of t)) empty_station

-- The lent buffer is shorter than a station's line.
abbrev pub room_test : Station → List ℕ → Test
room_test s buffer = when (not (leb (length (line_of s)) (length buffer))) (Err why.BufferTooShort)

-- Writing a line into a lent buffer asks 9 and 12, in that order.
unfoldable pub write_line_outcome : Station → List ℕ → Outcome
write_line_outcome s buffer = first_refusal (rule_test (typed_code s) ∷ room_test s buffer ∷ [])

-- It answers the line's length, and 0 on a refusal.
unfoldable pub line_length : Station → List ℕ → ℕ
line_length s buffer = if_done (write_line_outcome s buffer) (length (line_of s)) 0

-- It leaves the line and then the bytes as they were, and on a refusal every byte as it was.
unfoldable pub written_line : Station → List ℕ → List ℕ
written_line s buffer = if_done (write_line_outcome s buffer) (line_of s ++ drop (length (line_of s)) buffer) buffer

-- Listing a record as a line asks 6, 9 and 12, in that order.
unfoldable pub record_listing : List ℕ → List ℕ → Outcome
record_listing r buffer = first_refusal (record_test r ∷ rule_test (station_code r) ∷ room_test (value_of r) buffer ∷ [])

-- It answers the line's length, and 0 on a refusal.
unfoldable pub listed_length : List ℕ → List ℕ → ℕ
listed_length r buffer = if_done (record_listing r buffer) (length (line_of (value_of r))) 0

-- It leaves the line of the record's station and then the bytes as they were, and on a refusal every byte as it was.
unfoldable pub listed_record : List ℕ → List ℕ → List ℕ
listed_record r buffer = if_done (record_listing r buffer) (line_of (value_of r) ++ drop (length (line_of (value_of r))) buffer) buffer

-- Filing a line as a record asks 7, and then what reading it asks.
unfoldable pub line_filing : List ℕ → List ℕ → Outcome
line_filing t out = first_refusal (buffer_test out ∷ line_tests t)

-- It leaves the one spelling of the line's station, and on a refusal every byte as it was.
unfoldable pub filed_line : List ℕ → List ℕ → List ℕ
filed_line t out = if_done (line_filing t out) (spell_station (station_in_line t)) out
