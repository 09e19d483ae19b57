-- Document 02, wish 1: a field without its leading and trailing spaces, and a short field padded to its columns.
use Rattle.std.specs.Prelude.{ℕ, ◌-◌, Bool, true, ◌&&◌, List, [], ◌∷◌, ◌++◌, length, replicate, leb}
use Rattle.columns.specs.Texts.{skip, trimmed}
use Rattle.fields.specs.Kinds.{Kind, amount, unit, byte, choice, text, dropped, remarks, date, date_or_blank, tenths, kilometres, metres, metres_or_blank, position, whole, whole_or_blank}
use Rattle.fields.specs.Rows.{Row}
use Rattle.fields.specs.Table.{station_table}
use Rattle.semicolons.specs.declared.Side.{Side}
use Rattle.semicolons.specs.declared.Side.TheVariants as side

-- Whole numbers and decimals are padded on the left, all others on the right; only 13Z goes out untrimmed.
abbrev pub side_of : Kind → Side
side_of amount = side.Left
side_of unit = side.Right
side_of (byte first set) = side.Right
side_of (choice xs) = side.Right
side_of (text rule) = side.Right
side_of (dropped rule) = side.Right
side_of remarks = side.Kept
side_of date = side.Right
side_of date_or_blank = side.Right
side_of (tenths a sign range) = side.Left
side_of kilometres = side.Left
side_of metres = side.Left
side_of metres_or_blank = side.Left
side_of position = side.Right
side_of whole = side.Left
side_of whole_or_blank = side.Left

-- The sides of a table's fields,
abbrev pub sides_of : List Row → List Side
sides_of [] = []
sides_of (r ∷ rs) = side_of r.kind ∷ sides_of rs

-- and of a station's.
abbrev pub station_sides : List Side
station_sides = sides_of station_table

-- A field as it goes out: leading and trailing spaces off, unless it is kept.
unfoldable pub trimmed_field : Side → List ℕ → List ℕ
trimmed_field side.Left p = trimmed (skip p)
trimmed_field side.Right p = trimmed (skip p)
trimmed_field side.Kept p = p

-- The spaces that a field lacks in w columns.
abbrev pub missing : ℕ → List ℕ → List ℕ
missing w p = replicate (w - length p) 32

-- A field as it comes in: padded to w columns.
unfoldable pub padded_field : Side → ℕ → List ℕ → List ℕ
padded_field side.Left w p = missing w p ++ p
padded_field side.Right w p = p ++ missing w p
padded_field side.Kept w p = p ++ missing w p

-- How many spaces stand before a field of n bytes in w columns.
unfoldable pub spaces_before : Side → ℕ → ℕ → ℕ
spaces_before side.Left w n = w - n
spaces_before side.Right w n = 0
spaces_before side.Kept w n = 0

-- Fields as they go out, each on its own terms.
abbrev pub trimmed_fields : List Side → List (List ℕ) → List (List ℕ)
trimmed_fields [] ps = []
trimmed_fields (s ∷ ss) [] = []
trimmed_fields (s ∷ ss) (p ∷ ps) = trimmed_field s p ∷ trimmed_fields ss ps

-- Fields as they come in, each padded to the length of its place.
abbrev pub padded_fields : List Side → List (ℕ × ℕ) → List (List ℕ) → List (List ℕ)
padded_fields [] qs ps = []
padded_fields (s ∷ ss) [] ps = []
padded_fields (s ∷ ss) (q ∷ qs) [] = []
padded_fields (s ∷ ss) (q ∷ qs) (p ∷ ps) = padded_field s q.1 p ∷ padded_fields ss qs ps

-- No field is longer than its columns.
abbrev pub none_longer : List (ℕ × ℕ) → List (List ℕ) → Bool
none_longer [] ps = true
none_longer (q ∷ qs) [] = true
none_longer (q ∷ qs) (p ∷ ps) = leb (length p) q.1 && none_longer qs ps
