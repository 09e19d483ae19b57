-- One more row written where it is in scope, and kept where it is not.
use mathlib.Core.Path.{◌≡◌, sym, ap, ◌∙◌}
use mathlib.Core.Bool.{Bool, true, false, cond, and-false}
use mathlib.Core.List.{List, ◌++◌}
use Prim.Native.Nat.{ℕ, suc, ◌+◌, ◌-◌, ◌*◌, ◌≤◌, ◌<◌}
use native.Mathlib.Omega.{arith}
use lib.Dec.{leb}
use lib.ListN.{length, take, drop, length-drop}
use lib.Seq.{length-take-le}
use borrow.Author.Tests.{le-leb, lt-leb}
use Rattle.forms.specs.Counting.{rows}
use Rattle.forms.specs.Forms.{page_row}
use Rattle.forms.specs.OwnForm.{row_width, row_in}
use Rattle.forms.proofs.RowLaws.{RowsWide, rows_cong, row_put, row_kept}
use Rattle.chains.specs.declared.keys.Scope.{Scope}
use Rattle.chains.specs.Scopes.{in_scope}
use Rattle.sheet.specs.Sheets.{row_of}
use Rattle.sheet.specs.Entered.{scoped, written, written_row}
use Rattle.sheet.proofs.SheetLaws.{rows_wide}

-- Rows that have their value for the file or stand in the sheet have their width.
pub either_wide : (test : ℕ → Bool) (file sheet : List ℕ) (n : ℕ) → row_width * n ≤ length sheet → RowsWide row_width (λ j. cond (test j) (row_of file j) (row_in sheet j)) n
unfolding page_row
either_wide test file sheet n room i h = by_case (test (suc i))
  where
    by_case : (b : Bool) → length (cond b (row_of file (suc i)) (take row_width (drop (row_width * (suc i - 1)) sheet))) ≡ row_width
    by_case true = rows_wide file n i h
    by_case false = length-take-le row_width (drop (row_width * (suc i - 1)) sheet) (rw length-drop (omega arith))

module _ (scope : Scope) (from : ℕ) (file : List ℕ) where
  -- A row is written from the number on where it is in scope,
  pub is_written : (j : ℕ) → from ≤ j → scoped scope file j ≡ true → written scope from file j ≡ true
  unfolding written
  is_written j h e = rw (le-leb from j h, e)

  pub too_early : (j : ℕ) → j < from → written scope from file j ≡ false
  unfolding written
  too_early j h = rw (lt-leb from j h)

  pub out_of_scope : (j : ℕ) → scoped scope file j ≡ false → written scope from file j ≡ false
  unfolding written
  out_of_scope j e = rw e (and-false (leb from j))

  module _ (sheet : List ℕ) where
    -- and all rows have their width.
    written_wide : (n : ℕ) → row_width * n ≤ length sheet → RowsWide row_width (written_row scope from file sheet) n
    unfolding written_row
    written_wide n room i h = either_wide (written scope from file) file sheet n room i h

    -- a row that is written has its value for the file
    written_so : (j : ℕ) → written scope from file j ≡ true → written_row scope from file sheet j ≡ row_of file j
    unfolding written_row
    written_so j hit = rw hit

    module _ (i : ℕ) (room : row_width * i + row_width ≤ length sheet) where
      -- One row more that is written,
      pub written_hit : (now row : List ℕ) → row ≡ row_of file (i + 1) → written scope from file (i + 1) ≡ true → now ≡ rows (written_row scope from file sheet) i ++ drop (row_width * i) sheet
          → take (row_width * i) now ++ (row ++ drop (row_width * i + row_width) now) ≡ rows (written_row scope from file sheet) (i + 1) ++ drop (row_width * (i + 1)) sheet
      written_hit now row so hit e =
          ap (λ (t : List ℕ). take (row_width * i) now ++ (t ++ drop (row_width * i + row_width) now)) (so ∙ sym (written_so (i + 1) hit))
          ∙ row_put row_width (written_row scope from file sheet) sheet i (written_wide i (omega arith)) now e

      -- and one that is kept.
      pub written_miss : written scope from file (i + 1) ≡ false
          → rows (written_row scope from file sheet) i ++ drop (row_width * i) sheet ≡ rows (written_row scope from file sheet) (i + 1) ++ drop (row_width * (i + 1)) sheet
      unfolding written_row page_row
      written_miss miss = let e : i + 1 - 1 ≡ i = omega arith in row_kept row_width (written_row scope from file sheet) sheet i (rw (miss, e))

    -- Where all are in scope, from the first on, every row is written.
    pub all_written : scope.all ≡ true → from ≡ 1 → (n : ℕ) → rows (written_row scope from file sheet) n ≡ rows (row_of file) n
    unfolding in_scope
    all_written everybody start n = rows_cong (written_row scope from file sheet) (row_of file) n (λ i l. written_so (suc i) (is_written (suc i) (omega arith) (rw everybody)))
