-- Demand 3 over the calls themselves: after any run of replacements the sheet is the one judged afresh, and a replacement writes
-- only the new record, its own row, later rows that bear its old or new operator and site, and the trailer.
use mathlib.Core.Path.{◌≡◌, refl, sym, ap, ◌∙◌}
use mathlib.Core.Bool.{Bool, true, false}
use mathlib.Core.List.{List, [], ◌∷◌, ◌++◌}
use Prim.Native.Nat.{ℕ, suc, ◌+◌, ◌-◌, ◌*◌, ◌≤◌, ◌<◌}
use native.Mathlib.Omega.{arith}
use lib.ListN.{length, take}
use lib.Seq.{length-take-le}
use Rattle.basics.specs.Outcomes.{if_done}
use Rattle.header.specs.Codes.{filed_header_code}
use Rattle.files.specs.Files.{stations, record_at, with_record}
use Rattle.basics.proofs.RefusalLaws.{done, if_done_lem}
use Rattle.files.proofs.ReplacedLaws.{replaced_record, other_record}
use Rattle.forms.specs.Counting.{first, count, rows}
use Rattle.stations.specs.Stations.{site_at}
use Rattle.forms.specs.OwnForm.{form, row_width, row_in, bad, head_in, lowest_in, found_in}
use Rattle.sheet.specs.Sheets.{row_of, sheet_of}
use Rattle.forms.specs.Forms.{page_row, closed}
use Rattle.mending.specs.Replacing.{mended_row, mended_sheet, writes, rows_written}
use Rattle.replacing.specs.Calls.{replace_outcome, replaced_file, replaced_sheet, replaced_rows, after_all}
use Rattle.forms.proofs.CountLaws.{those, count-those}
use Rattle.forms.proofs.RowLaws.{RowsWide, length-rows, row_back}
use Rattle.forms.proofs.FormLaws.{head_back, rows_back, lowest_whole, found_whole}
use Rattle.mending.proofs.RowsMended.{mended_wide, header_none}
use Rattle.replacing.proofs.CallLaws.{allowed, still_judged}

-- A replacement, refused or not, takes the sheet judged from a file to the sheet judged from the file that it leaves,
pub replaced_judged : (file : List ℕ) (k : ℕ) (r : List ℕ) → replaced_sheet file (sheet_of file) k r ≡ sheet_of (replaced_file file (sheet_of file) k r)
unfolding replaced_sheet replaced_file if_done
replaced_judged file k r = by_case (done (replace_outcome file (sheet_of file) k r)) refl
  where
    by_case : (b : Bool) → done (replace_outcome file (sheet_of file) k r) ≡ b → replaced_sheet file (sheet_of file) k r ≡ sheet_of (replaced_file file (sheet_of file) k r)
    by_case false e = rw e
    by_case true e =
        let may = allowed file (sheet_of file) k r e in
        rw e (still_judged file k r (stations file) may.sizes.file_size may.within may.size refl)

-- and so does any run of them, headers and refused calls among them.
pub after_any_run : (calls : List (ℕ × List ℕ)) (file sheet : List ℕ) → sheet ≡ sheet_of file → (after_all (file, sheet) calls).1 ≡ sheet_of (after_all (file, sheet) calls).0
unfolding after_all
after_any_run [] file sheet e = e
after_any_run (call ∷ calls) file sheet e = after_any_run calls _ _ (rw e (replaced_judged file call.0 call.1))

-- A refused replacement changes nothing, whatever the sheet.
module _ (file sheet : List ℕ) (k : ℕ) (r : List ℕ) (refused : done (replace_outcome file sheet k r) ≡ false) where
  pub refused_changes_nothing : (replaced_file file sheet k r ≡ file) × (replaced_sheet file sheet k r ≡ sheet) × (replaced_rows file sheet k r ≡ 0)
  unfolding replaced_file replaced_sheet replaced_rows if_done
  refused_changes_nothing = (rw refused, rw refused, rw refused)

-- An accepted one, in any sheet, even one judged from another file:
module _ (file sheet : List ℕ) (k : ℕ) (r : List ℕ) (accepted : done (replace_outcome file sheet k r) ≡ true) where
  -- puts in the record,
  pub new_record : record_at (replaced_file file sheet k r) k ≡ r
  unfolding replaced_file if_done
  new_record = let may = allowed file sheet k r accepted in rw accepted (replaced_record file k r (omega (arith, may.sizes.file_size, may.within)) may.size)

  -- keeps every other record,
  pub other_records : (j : ℕ) → (j ≡ k → ⊥) → j ≤ stations file → record_at (replaced_file file sheet k r) j ≡ record_at file j
  unfolding replaced_file if_done
  other_records j ne l =
      let may = allowed file sheet k r accepted in
      rw accepted (other_record file k r (omega (arith, may.sizes.file_size, may.within)) may.size j ne (omega (arith, may.sizes.file_size, l)))

  mended : replaced_sheet file sheet k r ≡ mended_sheet (stations file) file sheet k r
  unfolding replaced_sheet if_done
  mended = rw accepted

-- and, where it is a station,
module _ (file sheet : List ℕ) (k : ℕ) (r : List ℕ) (accepted : done (replace_outcome file sheet (suc k) r) ≡ true) where
  room : row_width * stations file ≤ length sheet
  room = let may = allowed file sheet (suc k) r accepted in omega (arith, may.sizes.sheet_size)

  -- what stands after it has the length of its rows
  abbrev mended_to : ℕ → List ℕ
  mended_to = mended_row (with_record file (suc k) r) (site_at file (suc k)) (suc k) sheet

  wide : RowsWide row_width mended_to (stations file)
  wide = mended_wide (with_record file (suc k) r) (site_at file (suc k)) (suc k) sheet (stations file) room

  -- and is so closed
  ended : replaced_sheet file sheet (suc k) r ≡ closed form (stations file) (head_in sheet (stations file)) (rows mended_to (stations file))
  unfolding mended_sheet
  ended = mended file sheet (suc k) r accepted

  standing_size : length (rows mended_to (stations file)) ≡ row_width * stations file
  standing_size = length-rows row_width mended_to (stations file) wide

  -- writes each of them by the new file,
  pub own-rows : (i : ℕ) → i < stations file → writes file (suc k) r (suc i) ≡ true → row_in (replaced_sheet file sheet (suc k) r) (suc i) ≡ row_of (replaced_file file sheet (suc k) r) (suc i)
  unfolding page_row closed mended_row writes replaced_file if_done
  own-rows i h w =
      let e : suc i - 1 ≡ i = omega arith in
      rw (ended, e, accepted) (row_back row_width mended_to (stations file) wide i _ h ∙ rw w)

  -- keeps every other row,
  pub other_rows : (i : ℕ) → i < stations file → writes file (suc k) r (suc i) ≡ false → row_in (replaced_sheet file sheet (suc k) r) (suc i) ≡ row_in sheet (suc i)
  unfolding page_row closed mended_row writes
  other_rows i h w =
      let e : suc i - 1 ≡ i = omega arith in
      rw (ended, e) (row_back row_width mended_to (stations file) wide i _ h ∙ rw (w, e))

  -- keeps the header's code,
  pub kept-head : head_in (replaced_sheet file sheet (suc k) r) (stations file) ≡ head_in sheet (stations file)
  kept-head = rw ended (head_back form (stations file) (head_in sheet (stations file)) (rows mended_to (stations file)) standing_size)

  -- says the lowest bad row and the number of bad rows that then stand,
  pub new_lowest : lowest_in (replaced_sheet file sheet (suc k) r) (stations file) ≡ first (bad (replaced_sheet file sheet (suc k) r)) (stations file)
  new_lowest = rw ended (lowest_whole form (stations file) (head_in sheet (stations file)) (rows mended_to (stations file)) standing_size (omega arith))

  pub new_found : found_in (replaced_sheet file sheet (suc k) r) (stations file) ≡ count (bad (replaced_sheet file sheet (suc k) r)) (stations file)
  new_found = rw ended (found_whole form (stations file) (head_in sheet (stations file)) (rows mended_to (stations file)) standing_size (omega arith))

  -- and answers how many rows it wrote.
  pub written-rows : replaced_rows file sheet (suc k) r ≡ length (those (writes file (suc k) r) (stations file))
  unfolding replaced_rows if_done rows_written
  written-rows = rw accepted (count-those (writes file (suc k) r) (stations file))

-- A header writes no row,
module _ (file sheet r : List ℕ) (accepted : done (replace_outcome file sheet 0 r) ≡ true) where
  abbrev n : ℕ
  n = stations file

  standing : length (take (row_width * n) sheet) ≡ row_width * n
  standing = let may = allowed file sheet 0 r accepted in length-take-le (row_width * n) sheet (omega (arith, may.sizes.sheet_size))

  closed_so : replaced_sheet file sheet 0 r ≡ closed form n (filed_header_code r n) (take (row_width * n) sheet)
  unfolding mended_sheet
  closed_so = mended file sheet 0 r accepted

  pub header_keeps_rows : take (row_width * n) (replaced_sheet file sheet 0 r) ≡ take (row_width * n) sheet
  header_keeps_rows = rw closed_so (rows_back form n (filed_header_code r n) (take (row_width * n) sheet) standing)

  pub header_writes_none : replaced_rows file sheet 0 r ≡ 0
  unfolding replaced_rows
  header_writes_none = if_done_lem (replace_outcome file sheet 0 r) (rows_written n file 0 r) 0 accepted ∙ header_none n file r

  -- has its code judged anew,
  pub new_head : head_in (replaced_sheet file sheet 0 r) n ≡ filed_header_code r n
  new_head = rw closed_so (head_back form n (filed_header_code r n) (take (row_width * n) sheet) standing)

  -- and the trailer says the lowest bad row and the number of bad rows that stand.
  pub header_lowest : lowest_in (replaced_sheet file sheet 0 r) n ≡ first (bad (replaced_sheet file sheet 0 r)) n
  header_lowest = rw closed_so (lowest_whole form n (filed_header_code r n) (take (row_width * n) sheet) standing (omega arith))

  pub header_found : found_in (replaced_sheet file sheet 0 r) n ≡ count (bad (replaced_sheet file sheet 0 r)) n
  header_found = rw closed_so (found_whole form n (filed_header_code r n) (take (row_width * n) sheet) standing (omega arith))
