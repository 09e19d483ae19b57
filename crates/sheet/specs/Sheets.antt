-- Document 01, "The sheet": a row for each station and the trailer.
use Rattle.std.specs.Prelude.{ℕ, ◌-◌, List, [], ◌∷◌}
use Rattle.columns.specs.Texts.{same}
use Rattle.header.specs.Codes.{filed_header_code}
use Rattle.files.specs.Files.{stations, record_at}
use Rattle.stations.specs.Stations.{code_at, reference_at}
use Rattle.forms.specs.Counting.{first, rows}
use Rattle.forms.specs.Forms.{row_bytes}
use Rattle.forms.specs.OwnForm.{form, with_trailer}
use Rattle.clashes.specs.Clashes.{clash_at}

-- Station k's twin: the lowest i below k whose 13X bytes equal those of k, else 0; records that break rules count too.
unfoldable pub twin_at : List ℕ → ℕ → ℕ
twin_at file k = first (λ i. same (reference_at file i) (reference_at file k)) (k - 1)

-- Row k: station k's code, its twin, and its clash.
unfoldable pub row_of : List ℕ → ℕ → List ℕ
row_of file k = row_bytes form (code_at file k) (twin_at file k ∷ clash_at file k ∷ [])

-- The sheet judged from a file of n stations,
unfoldable pub judged_sheet : List ℕ → ℕ → List ℕ
judged_sheet file n = with_trailer n (filed_header_code (record_at file 0) n) (rows (row_of file) n)

-- and from any file.
unfoldable pub sheet_of : List ℕ → List ℕ
sheet_of file = judged_sheet file (stations file)
