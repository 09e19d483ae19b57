-- Document 02, wish 1: one line for a station, its thirty fields in column order.
use Rattle.std.specs.Prelude.{ℕ, zero, suc, ◌-◌, Bool, cond, ◌&&◌, ◌||◌, List, [], ◌∷◌, ◌++◌, length, get_or, eqb}
use Rattle.columns.specs.Sets.{is}
use Rattle.columns.specs.Texts.{ended, how_many}
use Rattle.basics.specs.Fields.{joined}
use Rattle.station.specs.Places.{station_places}
use Rattle.station.specs.Spelling.{station_pieces}
use Rattle.station.specs.declared.Station.{Station}
use Rattle.semicolons.specs.Fields.{station_sides, trimmed_fields, padded_fields}

-- Between two fields stands a semicolon,
abbrev pub is_semicolon : ℕ → Bool
is_semicolon c = is ";" c

-- and behind the last one a line feed.
abbrev pub is_feed : ℕ → Bool
is_feed c = eqb c 10

-- A field ends before either.
abbrev pub is_mark : ℕ → Bool
is_mark c = is_semicolon c || is_feed c

-- Fields joined by semicolons and ended by a line feed.
abbrev pub joined_line : List (List ℕ) → List ℕ
joined_line [] = []
joined_line (p ∷ []) = p ++ (10 ∷ [])
joined_line (p ∷ q ∷ ps) = p ++ (59 ∷ joined_line (q ∷ ps))

-- The line of a station: each field in the one spelling, with its leading and trailing spaces off.
unfoldable pub line_of : Station → List ℕ
line_of s = joined_line (trimmed_fields station_sides (station_pieces s))

-- The bytes of a line before its first mark,
unfoldable pub before : List ℕ → List ℕ
before [] = []
before (c ∷ t) = cond (is_mark c) [] (c ∷ before t)

-- and those behind it.
unfoldable pub behind : List ℕ → List ℕ
behind [] = []
behind (c ∷ t) = cond (is_mark c) t (behind t)

-- A line split at its marks into k fields.
unfoldable pub split : ℕ → List ℕ → List (List ℕ)
split zero t = []
split (suc k) t = before t ∷ split k (behind t)

-- The thirty fields of a line.
unfoldable pub line_fields : List ℕ → List (List ℕ)
line_fields t = split 30 t

-- The last byte of a text, 0 where it has none.
abbrev pub last_byte : List ℕ → ℕ
last_byte t = get_or t (length t - 1) 0

-- So many semicolons and one line feed, the last byte.
abbrev pub marked_with : ℕ → List ℕ → Bool
marked_with n t = eqb (how_many is_semicolon t) n && (eqb (how_many is_feed t) 1 && is_feed (last_byte t))

-- A line has twenty-nine semicolons.
unfoldable pub is_line : List ℕ → Bool
is_line t = marked_with 29 t

-- The longest one whose fields are no longer than their columns: 219 columns, 29 semicolons and the line feed.
abbrev pub longest_line : ℕ
longest_line = 249

-- The record that a line says: its fields, each padded to its columns.
unfoldable pub record_of : List ℕ → List ℕ
record_of t = joined (padded_fields station_sides station_places (line_fields t))

-- The lines of a text that goes on a line begun by p: each ends with its line feed, and what stands behind the last one is a line too,
-- where anything does.
unfoldable pub lines_from : List ℕ → List ℕ → List (List ℕ)
lines_from p [] = cond (ended p) [] (p ∷ [])
lines_from p (c ∷ t) = cond (is_feed c) ((p ++ (c ∷ [])) ∷ lines_from [] t) (lines_from (p ++ (c ∷ [])) t)

-- The lines of a text.
abbrev pub lines_of : List ℕ → List (List ℕ)
lines_of t = lines_from [] t
