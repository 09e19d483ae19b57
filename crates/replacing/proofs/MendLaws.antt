-- Demand 3: a sheet judged from a file, and mended when a record is replaced, is the sheet judged afresh.
use mathlib.Core.Path.{◌≡◌, refl}
use mathlib.Core.Bool.{Bool, not, ◌&&◌}
use mathlib.Core.List.{List, [], ◌∷◌}
use Prim.Native.Nat.{ℕ, zero, suc, ◌+◌, ◌*◌, ◌≤◌}
use native.Mathlib.Omega.{arith}
use lib.Dec.{eqb}
use lib.ListN.{length, take, drop}
use Rattle.columns.specs.Texts.{same}
use Rattle.basics.specs.Fields.{at}
use Rattle.station.specs.Places.{fields_of}
use Rattle.station.specs.Codes.{station_code}
use Rattle.positions.specs.Positions.{located_of}
use Rattle.distances.specs.Distances.{ground_of}
use Rattle.header.specs.Codes.{filed_header_code}
use Rattle.files.specs.Files.{record_at, with_record}
use Rattle.files.proofs.ReplacedLaws.{replaced_record}
use Rattle.forms.specs.Counting.{rows}
use Rattle.stations.specs.Stations.{code_at, reference_at, site_at, position_at, ground_at}
use Rattle.forms.specs.OwnForm.{form, row_width, with_trailer}
use Rattle.standing.specs.Standing.{same_count, same_place, stand_alike}
use Rattle.clashes.specs.Clashes.{clashing, clash_at}
use Rattle.sheet.specs.Sheets.{twin_at, row_of, judged_sheet}
use Rattle.forms.specs.Forms.{row_bytes}
use Rattle.mending.specs.Replacing.{touched, mended_row, mended_sheet}
use Rattle.replacing.proofs.LocalLaws.{Local, Finer, own_local, lowest_local, both_local, finer_part, kept_record}
use Rattle.replacing.proofs.MendForm.{rows_mended, rows_under}
use Rattle.sheet.proofs.SheetLaws.{rows_wide, judged-head}

-- 13X of a record, and operator and site in it
abbrev reference : List ℕ → List ℕ
reference r = at (fields_of r) 30

abbrev site : List ℕ → List ℕ
site x = take 6 (drop 5 x)

-- the key by which rows hang together: operator and site
abbrev pub key : List ℕ → List ℕ
key r = site (reference r)

-- twins share it,
abbrev twins : List ℕ → List ℕ → Bool
twins a b = same (reference a) (reference b)

twin_finer : Finer twins key
twin_finer = finer_part twins reference site (λ a b e. e)

-- and stations that clash do
abbrev clash : List ℕ → List ℕ → Bool
clash a b =
    same (key a) (key b)
    && (not (same_place (located_of (at (fields_of a) 11)) (located_of (at (fields_of b) 11)) && same_count (ground_of (at (fields_of a) 21)).0 (ground_of (at (fields_of b) 21)).0)
    && (eqb (station_code a) 0 && eqb (station_code b) 0))

clash_finer : Finer clash key
clash_finer a b e = rw e

-- The row, code, twin and clash, hangs on its record and on earlier ones with its operator and site.
pub row_local : Local key row_of
unfolding row_of code_at twin_at reference_at clash_at clashing stand_alike site_at position_at ground_at
row_local =
    both_local key (λ c xs. row_bytes form c xs) {u = code_at} {v = λ f j. twin_at f j ∷ clash_at f j ∷ []} (own_local key station_code)
    (both_local key (λ t c. t ∷ c ∷ []) {u = twin_at} {v = clash_at} (lowest_local key twins twin_finer) (lowest_local key clash clash_finer))

-- the sheet of a file, from its rows and its header
from_rows : (r : List ℕ) (n : ℕ) (f standing : List ℕ) → standing ≡ rows (row_of f) n → record_at f 0 ≡ r → with_trailer n (filed_header_code r n) standing ≡ judged_sheet f n
unfolding judged_sheet
from_rows r n f standing s e = rw (s, e)

-- The sheet judged from a file, mended, is the sheet judged from the new file.
pub mended_sheet_lem : (file : List ℕ) (k : ℕ) (r : List ℕ) (n : ℕ) → length file ≡ 219 * n + 219 → k ≤ n → length r ≡ 219
    → mended_sheet n file (judged_sheet file n) k r ≡ judged_sheet (with_record file k r) n
unfolding mended_sheet mended_row touched site_at reference_at
mended_sheet_lem file zero r n fits low size =
    from_rows r n (with_record file 0 r) (take (row_width * n) (judged_sheet file n)) (unfold judged_sheet in rows_under form key row_of row_local rows_wide file 0 r n fits low size _ refl)
    (replaced_record file 0 r (omega arith) size)
mended_sheet_lem file (suc k) r n fits low size =
    rw (judged-head file n)
    (from_rows (record_at file 0) n (with_record file (suc k) r) _ (unfold judged_sheet in rows_mended form key row_of row_local rows_wide file (suc k) r n fits low size _)
    (rw (← kept_record key file (suc k) r n fits low size 0 (λ e. omega arith) (omega arith))))
