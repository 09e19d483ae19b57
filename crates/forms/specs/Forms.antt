-- Document 01, "The sheet", over any form: a row is its code and numbers of b bytes each, high byte first; the trailer is distance (2),
-- width, header code, lowest bad row (b), bad rows (b) and mark (2).
use Rattle.std.specs.Prelude.{ℕ, zero, suc, ◌+◌, ◌-◌, ◌*◌, ◌/◌, ◌%◌, Bool, not, ◌&&◌, List, [], ◌∷◌, ◌++◌, get_or, take, drop, eqb}
use Rattle.columns.specs.Texts.{every, same}
use Rattle.forms.specs.Counting.{first, count}

-- A form of sheets: bytes of a row, bytes of a number, and the mark that ends a sheet.
pub record Form : Type 0 where
  pub width : ℕ
  pub bytes : ℕ
  pub mark : List ℕ

-- b + 1 bytes of a number before what follows them, high byte first,
abbrev pub spread : ℕ → ℕ → List ℕ → List ℕ
spread zero x t = x ∷ t
spread (suc b) x t = spread b (x / 256) (x % 256 ∷ t)

-- a number in b bytes,
abbrev pub number : ℕ → ℕ → List ℕ
number zero x = []
number (suc b) x = spread b x []

-- and numbers one after the other.
abbrev pub numbers : ℕ → List ℕ → List ℕ
numbers b [] = []
numbers b (x ∷ xs) = number b x ++ numbers b xs

-- The number that bytes give, after those that gave a.
abbrev pub value_from : ℕ → List ℕ → ℕ
value_from a [] = a
value_from a (c ∷ t) = value_from (a * 256 + c) t

-- A row: its code, and its numbers.
abbrev pub row_bytes : Form → ℕ → List ℕ → List ℕ
row_bytes f code xs = code ∷ numbers f.bytes xs

-- The trailer's length, and the length of a sheet of n stations.
abbrev pub trailer_bytes : Form → ℕ
trailer_bytes f = 6 + 2 * f.bytes

abbrev pub sheet_bytes : Form → ℕ → ℕ
sheet_bytes f n = f.width * n + trailer_bytes f

-- The row that stands for station k, and whether it is bad: a byte of it is not 0.
unfoldable pub page_row : Form → List ℕ → ℕ → List ℕ
page_row f sheet k = take f.width (drop (f.width * (k - 1)) sheet)

unfoldable pub bad_at : Form → List ℕ → ℕ → Bool
bad_at f sheet k = not (every (λ c. eqb c 0) (page_row f sheet k))

-- What a row says: its code, and its number q, from 0.
abbrev pub code_in : List ℕ → ℕ
code_in row = get_or row 0 0

abbrev pub number_in : Form → List ℕ → ℕ → ℕ
number_in f row q = value_from 0 (take f.bytes (drop (1 + f.bytes * q) row))

-- Distance from the sheet's end back to its first row, and width.
abbrev pub shape : Form → ℕ → List ℕ
shape f n = number 2 (sheet_bytes f n) ++ (f.width ∷ [])

unfoldable pub trailer_of : Form → ℕ → ℕ → ℕ → ℕ → List ℕ
trailer_of f n head lowest found = shape f n ++ (head ∷ (number f.bytes lowest ++ (number f.bytes found ++ f.mark)))

-- The n rows that stand, and their trailer.
unfoldable pub closed : Form → ℕ → ℕ → List ℕ → List ℕ
closed f n head standing = standing ++ trailer_of f n head (first (bad_at f standing) n) (count (bad_at f standing) n)

-- What the trailer of n rows says: the header's code, the lowest bad row, the number of bad rows.
unfoldable pub head_at : Form → List ℕ → ℕ → ℕ
head_at f sheet n = get_or sheet (f.width * n + 3) 0

unfoldable pub lowest_at : Form → List ℕ → ℕ → ℕ
lowest_at f sheet n = value_from 0 (take f.bytes (drop (f.width * n + 4) sheet))

unfoldable pub found_at : Form → List ℕ → ℕ → ℕ
found_at f sheet n = value_from 0 (take f.bytes (drop (f.width * n + (4 + f.bytes)) sheet))

-- The trailer has the distance, the width and the mark of a sheet of n rows.
unfoldable pub fits_form : Form → List ℕ → ℕ → Bool
fits_form f sheet n = let t = drop (f.width * n) sheet in same (shape f n) (take 3 t) && same f.mark (drop (4 + 2 * f.bytes) t)
