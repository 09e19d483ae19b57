-- Mending over any form, any row and any key: the sheet of a file, mended, is the sheet of the new file.
use mathlib.Core.Path.{◌≡◌, refl, sym, ap, ◌∙◌}
use mathlib.Core.Bool.{cond}
use mathlib.Core.List.{List}
use Prim.Native.Nat.{ℕ, ◌+◌, ◌*◌, ◌≤◌}
use lib.ListN.{length, take}
use Rattle.files.specs.Files.{record_at, with_record}
use Rattle.forms.specs.Counting.{rows}
use Rattle.forms.specs.Forms.{Form, page_row, closed}
use Rattle.forms.proofs.RowLaws.{RowsWide, length-rows}
use Rattle.forms.proofs.FormLaws.{rows_back}
use Rattle.replacing.proofs.LocalLaws.{Local, touched_by, mended_by_lem, header_rows}

-- A row that is written gets its value for the file; every other row keeps its bytes.
abbrev pub mended_by : Form → (List ℕ → List ℕ) → (List ℕ → ℕ → List ℕ) → List ℕ → List ℕ → ℕ → List ℕ → ℕ → List ℕ
mended_by f key row file old k sheet j = cond (touched_by key file old k j) (row file j) (page_row f sheet j)

module _ (f : Form) (key : List ℕ → List ℕ) (row : List ℕ → ℕ → List ℕ) (is-local : Local key row) (wide : (file : List ℕ) (n : ℕ) → RowsWide f.width (row file) n)
    (file : List ℕ) (k : ℕ) (r : List ℕ) (n : ℕ) (fits : length file ≡ 219 * n + 219) (low : k ≤ n) (size : length r ≡ 219) (before : ℕ) where
  -- what the sheet was, whatever header code it had
  abbrev was : List ℕ
  was = closed f n before (rows (row file) n)

  -- The rows of a station that is replaced, mended, are the new file's,
  pub rows_mended : rows (mended_by f key row (with_record file k r) (key (record_at file k)) k was) n ≡ rows (row (with_record file k r)) n
  unfolding page_row closed
  rows_mended = mended_by_lem key file k r n fits low size f.width row is-local (wide file n) _

  -- and those that stand under a new header too.
  pub rows_under : k ≡ 0 → take (f.width * n) was ≡ rows (row (with_record file k r)) n
  rows_under z = rows_back f n before (rows (row file) n) (length-rows f.width (row file) n (wide file n)) ∙ header_rows key file k r n fits low size row is-local z
