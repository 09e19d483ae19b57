-- Document 02, wish 1: what is wrong with a line that is refused with 10 or 11.
use Rattle.std.specs.Prelude.{ℕ, suc, Bool, cond, ◌&&◌, List, [], ◌∷◌, length, leb, eqb}
use Rattle.columns.specs.Texts.{how_many}
use Rattle.station.specs.Places.{station_places}
use Rattle.semicolons.specs.Lines.{is_semicolon, is_feed, last_byte, line_fields}
use Rattle.faults.specs.declared.Marks.{Marks}
use Rattle.faults.specs.declared.LongField.{LongField}

-- The marks of a text: its semicolons, its line feeds, and whether one of these is its last byte.
unfoldable pub marks_of : List ℕ → Marks
marks_of t = record { semicolons = how_many is_semicolon t; feeds = how_many is_feed t; ended = is_feed (last_byte t) }

-- A line has twenty-nine semicolons and one line feed, the last byte.
unfoldable pub has_marks : Marks → Bool
has_marks m = eqb m.semicolons 29 && (eqb m.feeds 1 && m.ended)

-- No field: zeros.
abbrev pub no_field : LongField
no_field = record { number = 0; length = 0; most = 0 }

-- The first field that is longer than the columns of its place; the first of them has number k.
unfoldable pub first_longer : ℕ → List (ℕ × ℕ) → List (List ℕ) → LongField
first_longer k [] ps = no_field
first_longer k (q ∷ qs) [] = no_field
first_longer k (q ∷ qs) (p ∷ ps) = cond (leb (length p) q.1) (first_longer (suc k) qs ps) (record { number = k; length = length p; most = q.1 })

-- The first of the thirty fields of a line that is longer than its columns.
unfoldable pub long_field : List ℕ → LongField
long_field t = first_longer 1 station_places (line_fields t)
