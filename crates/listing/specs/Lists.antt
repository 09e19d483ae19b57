-- Document 02, wish 1: the semicolon list of a whole file.
use Rattle.std.specs.Prelude.{ℕ, cond, List, [], eqb}
use Rattle.basics.specs.Outcomes.{refusal, if_done}
use Rattle.station.specs.Spelling.{spell_station}
use Rattle.station.specs.Codes.{value_of, station_code}
use Rattle.files.specs.Files.{stations, record_at}
use Rattle.forms.specs.Counting.{rows}
use Rattle.semicolons.specs.Lines.{line_of}
use Rattle.printing.specs.Lines.{refused_line, broken_line}
use Rattle.files.specs.Calls.{length_outcome}

-- What a list has for station k, whose record is r: the station's line, and where the record breaks a rule its number and code.
unfoldable pub entry : ℕ → List ℕ → List ℕ
entry k r = cond (eqb (station_code r) 0) (line_of (value_of r)) (broken_line k (station_code r))

-- What the list of a file has for station k.
unfoldable pub entry_of : List ℕ → ℕ → List ℕ
entry_of file k = entry k (record_at file k)

-- The list of a file: what it has for each station in turn, and on a refusal its one line.
unfoldable pub list_of : List ℕ → List ℕ
list_of file = if_done (length_outcome file) (rows (entry_of file) (stations file)) (refused_line (refusal (length_outcome file)))

-- What comes back for station k of a file that went out as a list: its one spelling, and nothing where it breaks a rule.
unfoldable pub returned : List ℕ → ℕ → List ℕ
returned file k = cond (eqb (station_code (record_at file k)) 0) (spell_station (value_of (record_at file k))) []
