-- The rows that a replacement touches, as those that are written in a scope; and what a replaced station leaves.
use mathlib.Core.Path.{◌≡◌, refl, sym, ◌∙◌}
use mathlib.Core.Bool.{false}
use mathlib.Core.List.{List, ◌++◌}
use Prim.Native.Nat.{ℕ, zero, suc, ◌+◌, ◌*◌, ◌≤◌}
use native.Mathlib.Omega.{arith}
use lib.ListN.{length, take, drop}
use Rattle.files.specs.Files.{with_record}
use Rattle.forms.specs.Counting.{count, rows}
use Rattle.stations.specs.Stations.{site_at}
use Rattle.forms.proofs.CountLaws.{count_cong, count_none}
use Rattle.forms.specs.OwnForm.{row_width, head_in, with_trailer}
use Rattle.mending.specs.Replacing.{touched, mended_row, mended_sheet, writes, rows_written}
use Rattle.forms.proofs.RowLaws.{RowsWide, rows_cong, take-rows}
use Rattle.sheet.specs.Entered.{written, written_row}
use Rattle.sheet.proofs.WrittenLaws.{either_wide}
use Rattle.basics.specs.Fields.{record_length}
use Rattle.words.specs.Words.{word_of}
use Rattle.words.proofs.WordLaws.{Bytes, word_eqb}
use Rattle.stations.proofs.StationLaws.{site_wide}
use Rattle.chains.specs.declared.keys.Scope.{Scope}
use Rattle.chains.specs.Scopes.{in_scope}
use Rattle.chains.proofs.KeyLaws.{site-bytes, sites_same}

module _ (file old : List ℕ) (k : ℕ) (sheet : List ℕ) where
  -- The rows of a mended sheet have their width.
  pub mended_wide : (n : ℕ) → row_width * n ≤ length sheet → RowsWide row_width (mended_row file old k sheet) n
  unfolding mended_row
  mended_wide n room i h = either_wide (touched file old k) file sheet n room i h

-- The rows that are touched are those that are written from k on in the scope of the old site and the new one.
module _ (file old : List ℕ) (k : ℕ) (b : Bytes file) (bo : Bytes old) (six : length old ≡ 6) (there : record_length * k + record_length ≤ length file) where
  abbrev both : Scope
  both = record { all = false; one = word_of old; other = word_of (site_at file k) }

  touched_so : (j : ℕ) → record_length * j + record_length ≤ length file → written both k file j ≡ touched file old k j
  unfolding touched written in_scope
  touched_so j h = rw (word_eqb (site_at file j) old (site_wide file j h ∙ sym six) (site-bytes file b j) bo, sites_same file b j k h there)

  module _ (n : ℕ) (room : record_length * n + record_length ≤ length file) where
    touched-count : count (written both k file) n ≡ count (touched file old k) n
    touched-count = count_cong (written both k file) (touched file old k) n (λ i l. touched_so (suc i) (omega arith))

    touched-rows : (sheet : List ℕ) → rows (written_row both k file sheet) n ≡ rows (mended_row file old k sheet) n
    unfolding written_row mended_row
    touched-rows sheet = rows_cong (written_row both k file sheet) (mended_row file old k sheet) n (λ i l. rw (touched_so (suc i) (omega arith)))

    pub touched-written : (one other r : ℕ) (sheet after : List ℕ) → one ≡ word_of old → other ≡ word_of (site_at file k) → let scope : Scope = record { all = false; one = one; other = other } in
        r ≡ count (written scope k file) n → after ≡ rows (written_row scope k file sheet) n ++ drop (row_width * n) sheet
        → (r ≡ count (touched file old k) n) × (after ≡ rows (mended_row file old k sheet) n ++ drop (row_width * n) sheet)
    touched-written one other r sheet after e1 e2 er ea = (er ∙ rw (e1, e2) touched-count, ea ∙ rw (e1, e2, touched-rows sheet))

-- what holds of each successor holds of each number that is not 0
by_suc : (P : ℕ → Type 0) → ((j : ℕ) → P (suc j)) → (k : ℕ) → 1 ≤ k → P k
by_suc P h zero l = absurd (omega arith)
by_suc P h (suc k) l = h k

-- A header writes no row.
pub header_none : (n : ℕ) (file r : List ℕ) → rows_written n file 0 r ≡ 0
unfolding rows_written writes
header_none n file r = count_none (writes file 0 r) n (λ i. refl)

-- A station's replacement, from what the steps leave: the new file, the old operator and site, the rows that stand.
module _ (file sheet : List ℕ) (k : ℕ) (r : List ℕ) (n : ℕ) where
  -- what is said of a station is said of every number but 0
  written_so : 1 ≤ k → rows_written n file k r ≡ count (touched (with_record file k r) (site_at file k) k) n
  unfolding rows_written writes
  written_so h = by_suc (λ (k : ℕ). rows_written n file k r ≡ count (touched (with_record file k r) (site_at file k) k) n) (λ j. refl) k h

  mended_station : 1 ≤ k → mended_sheet n file sheet k r ≡ with_trailer n (head_in sheet n) (rows (mended_row (with_record file k r) (site_at file k) k sheet) n)
  unfolding mended_sheet
  mended_station h =
      by_suc (λ (k : ℕ). mended_sheet n file sheet k r ≡ with_trailer n (head_in sheet n) (rows (mended_row (with_record file k r) (site_at file k) k sheet) n))
      (λ j. refl) k h

  module _ (h : 1 ≤ k) {file' old : List ℕ} (ef : file' ≡ with_record file k r) (eo : old ≡ site_at file k) where
    pub station_rows : count (touched file' old k) n ≡ rows_written n file k r
    station_rows = rw (ef, eo) (sym (written_so h))

    pub station_sheet : row_width * n ≤ length sheet → {sheet' : List ℕ} → sheet' ≡ rows (mended_row file' old k sheet) n ++ drop (row_width * n) sheet
        → with_trailer n (head_in sheet n) (take (row_width * n) sheet') ≡ mended_sheet n file sheet k r
    station_sheet room es =
        rw (es, take-rows row_width (mended_row file' old k sheet) n (mended_wide file' old k sheet n room) (drop (row_width * n) sheet), ef, eo) (sym (mended_station h))
