-- Document 01, "The sheet": the form of our own sheets, and what is read of a sheet in it.
use Rattle.std.specs.Prelude.{ℕ, ◌+◌, ◌-◌, ◌*◌, ◌/◌, Bool, List, length}
use Rattle.columns.specs.Texts.{bytes}
use Rattle.forms.specs.Forms.{Form, trailer_bytes, sheet_bytes, number_in, page_row, bad_at, closed, head_at, lowest_at, found_at, fits_form}

-- The form of sheets: a row is its code and m numbers of b bytes each.
abbrev pub row_numbers : ℕ
row_numbers = 2

abbrev pub number_bytes : ℕ
number_bytes = 2

abbrev pub mark : List ℕ
mark = bytes "2C"

abbrev pub form : Form
form = record { width = 1 + row_numbers * number_bytes; bytes = number_bytes; mark = mark }

-- The length of a row, of the trailer, and of a sheet of n stations.
abbrev pub row_width : ℕ
row_width = form.width

abbrev pub trailer_length : ℕ
trailer_length = trailer_bytes form

abbrev pub sheet_length : ℕ → ℕ
sheet_length n = sheet_bytes form n

-- How many rows a sheet has before its trailer.
unfoldable pub rows_in : List ℕ → ℕ
rows_in sheet = (length sheet - trailer_length) / row_width

-- In this form: the row that stands for station k, whether it is bad, the n rows that stand with their trailer, the header code in it, and whether it fits n rows.
abbrev pub row_in : List ℕ → ℕ → List ℕ
row_in sheet k = page_row form sheet k

abbrev pub bad : List ℕ → ℕ → Bool
bad sheet k = bad_at form sheet k

abbrev pub with_trailer : ℕ → ℕ → List ℕ → List ℕ
with_trailer n head standing = closed form n head standing

abbrev pub head_in : List ℕ → ℕ → ℕ
head_in sheet n = head_at form sheet n

abbrev pub lowest_in : List ℕ → ℕ → ℕ
lowest_in sheet n = lowest_at form sheet n

abbrev pub found_in : List ℕ → ℕ → ℕ
found_in sheet n = found_at form sheet n

abbrev pub twin_in : List ℕ → ℕ → ℕ
twin_in sheet k = number_in form (row_in sheet k) 0

abbrev pub clash_in : List ℕ → ℕ → ℕ
clash_in sheet k = number_in form (row_in sheet k) 1

abbrev pub trailer_fits : List ℕ → ℕ → Bool
trailer_fits sheet n = fits_form form sheet n
