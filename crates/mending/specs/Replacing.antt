-- Document 01, "Replacing": what stands after record number k is put in. The file is the new one, and old is the operator
-- and site that station k had before.
use Rattle.std.specs.Prelude.{ℕ, zero, suc, ◌*◌, Bool, false, cond, ◌&&◌, ◌||◌, List, take, leb}
use Rattle.columns.specs.Texts.{same}
use Rattle.header.specs.Codes.{filed_header_code}
use Rattle.forms.specs.Counting.{count, rows}
use Rattle.files.specs.Files.{with_record}
use Rattle.stations.specs.Stations.{site_at}
use Rattle.forms.specs.OwnForm.{row_width, row_in, with_trailer, head_in}
use Rattle.sheet.specs.Sheets.{row_of}

-- Row j is written: row k, and every later row whose operator and site, places 6 to 11 of 13X, equal the old or the new ones of k, equal or
-- not. Rows with an equal 13X are among them.
unfoldable pub touched : List ℕ → List ℕ → ℕ → ℕ → Bool
touched file old k j = leb k j && (same (site_at file j) old || same (site_at file j) (site_at file k))

-- A row that is written gets its value for the new file; every other row keeps its bytes.
unfoldable pub mended_row : List ℕ → List ℕ → ℕ → List ℕ → ℕ → List ℕ
mended_row file old k sheet j = cond (touched file old k j) (row_of file j) (row_in sheet j)

-- The sheet of n rows after record r is put in as number k. A header writes no row and is judged anew; other numbers keep the header's code.
unfoldable pub mended_sheet : ℕ → List ℕ → List ℕ → ℕ → List ℕ → List ℕ
mended_sheet n file sheet zero r = with_trailer n (filed_header_code r n) (take (row_width * n) sheet)
mended_sheet n file sheet (suc k) r =
    with_trailer n (head_in sheet n) (rows (mended_row (with_record file (suc k) r) (site_at file (suc k)) (suc k) sheet) n)

-- The rows that putting in record r as number k writes: none for a header, and for a station those that it touches,
unfoldable pub writes : List ℕ → ℕ → List ℕ → ℕ → Bool
writes file zero r j = false
writes file (suc k) r j = touched (with_record file (suc k) r) (site_at file (suc k)) (suc k) j

-- and how many of n rows these are.
unfoldable pub rows_written : ℕ → List ℕ → ℕ → List ℕ → ℕ
rows_written n file k r = count (writes file k r) n
