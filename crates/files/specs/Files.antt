-- Document 01, "The filing and its files": one 219-byte header and n stations of 219 bytes. Record 0 is the header, stations count from 1.
use Rattle.std.specs.Prelude.{ℕ, ◌+◌, ◌-◌, ◌*◌, ◌/◌, ◌%◌, ◌≤◌, Bool, not, ◌||◌, List, ◌++◌, length, take, drop, ltb, eqb}
use Rattle.basics.specs.Fields.{record_length}

-- A file has at most 298 stations (document 02, wish 4).
abbrev pub most_stations : ℕ
most_stations = 298

-- How many stations a file has.
unfoldable pub stations : List ℕ → ℕ
stations file = length file / record_length - 1

-- Record number k.
unfoldable pub record_at : List ℕ → ℕ → List ℕ
record_at file k = take record_length (drop (record_length * k) file)

-- It is wholly there.
abbrev pub HasRecord : List ℕ → ℕ → Type 0
HasRecord file k = record_length * k + record_length ≤ length file

-- How many bytes stand before it: 219 for each record before it, and all of a file that ends sooner.
unfoldable pub record_offset : List ℕ → ℕ → ℕ
record_offset file k = length (take (record_length * k) file)

-- The file with another record number k.
unfoldable pub with_record : List ℕ → ℕ → List ℕ → List ℕ
with_record file k r = take (record_length * k) file ++ (r ++ drop (record_length * k + record_length) file)

-- Refusal 1: the file is longer than a header and 298 stations, 65,481 bytes.
unfoldable pub too_long : List ℕ → Bool
too_long file = ltb (record_length * (most_stations + 1)) (length file)

-- Refusal 2: its length is zero or no multiple of 219.
unfoldable pub not_records : List ℕ → Bool
not_records file = eqb (length file) 0 || not (eqb (length file % record_length) 0)
