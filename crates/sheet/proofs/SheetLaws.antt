-- The sheet's own rows and trailer, by the laws of any form.
use mathlib.Core.Path.{◌≡◌, refl}
use mathlib.Core.Bool.{true}
use mathlib.Core.List.{List}
use Prim.Native.Nat.{ℕ, ◌*◌}
use native.Mathlib.Omega.{arith}
use lib.ListN.{length, take}
use Rattle.header.specs.Codes.{filed_header_code}
use Rattle.files.specs.Files.{record_at}
use Rattle.forms.specs.Counting.{count, rows}
use Rattle.forms.specs.OwnForm.{form, row_width, sheet_length, bad, head_in, found_in, trailer_fits}
use Rattle.forms.proofs.RowLaws.{RowsWide, length-rows}
use Rattle.forms.proofs.FormLaws.{rows_back, head_back, fits_back, found_whole, closed-length}
use Rattle.sheet.specs.Sheets.{row_of, judged_sheet}

-- The rows of a file have their width.
pub rows_wide : (file : List ℕ) (n : ℕ) → RowsWide row_width (row_of file) n
unfolding row_of
rows_wide file n i h = refl

-- What is read back of the sheet judged from a file.
module _ (file : List ℕ) (n : ℕ) where
  abbrev head : ℕ
  head = filed_header_code (record_at file 0) n

  standing_length : length (rows (row_of file) n) ≡ row_width * n
  standing_length = length-rows row_width (row_of file) n (rows_wide file n)

  pub judged-rows : take (row_width * n) (judged_sheet file n) ≡ rows (row_of file) n
  unfolding judged_sheet
  judged-rows = rows_back form n head (rows (row_of file) n) standing_length

  pub judged-head : head_in (judged_sheet file n) n ≡ filed_header_code (record_at file 0) n
  unfolding judged_sheet
  judged-head = head_back form n head (rows (row_of file) n) standing_length

  pub judged_fits : trailer_fits (judged_sheet file n) n ≡ true
  unfolding judged_sheet
  judged_fits = fits_back form n head (rows (row_of file) n) standing_length

  pub judged_found : found_in (judged_sheet file n) n ≡ count (bad (judged_sheet file n)) n
  unfolding judged_sheet
  judged_found = found_whole form n head (rows (row_of file) n) standing_length (omega arith)

  pub judged-length : length (judged_sheet file n) ≡ sheet_length n
  unfolding judged_sheet
  judged-length = closed-length form n head (rows (row_of file) n) standing_length refl
