-- What a page says: its codes ascend, so that each stands once; its station counts add up to the stations with code 0; each row has the figures
-- of its operator's stations, and each operator that has a station has its row.
use mathlib.Core.Path.{◌≡◌, refl, sym, ◌∙◌, ap}
use mathlib.Core.Bool.{Bool, true, false, cond}
use mathlib.Core.List.{List, [], ◌∷◌, ◌++◌}
use Prim.Native.Nat.{ℕ, zero, suc, ◌+◌, ◌≤◌, ◌<◌}
use native.Mathlib.Nat.{le_refl}
use native.Mathlib.Omega.{arith}
use borrow.Author.Tests.{eqb-true}
use lib.Dec.{eqb}
use lib.ListN.{length}
use Rattle.forms.specs.Counting.{count}
use Rattle.files.specs.Files.{stations}
use Rattle.stations.specs.Stations.{code_at}
use Rattle.operator_counts.specs.declared.Tally.{Tally}
use Rattle.operator_counts.specs.Counts.{operators, heard_at, tally_of}
use Rattle.operator_counts.proofs.SumLaws.{sum_to, sum_good}
use Rattle.operator_pages.specs.declared.OperatorRow.{OperatorRow}
use Rattle.operator_pages.specs.Pages.{operator_row, row_if_any, rows_below, page_of, stations_on}
use Rattle.operator_pages.proofs.OrderLaws.{Ascending, code_number, row_in, rows_ascend}

-- Codes ascend.
pub codes_ascend : (file : List ℕ) (i j : ℕ) → i < j → j < length (page_of file) → code_number (row_in (page_of file) i) < code_number (row_in (page_of file) j)
unfolding page_of
codes_ascend file i j l m = (rows_ascend (tally_of (heard_at file) (stations file)) operators (le_refl operators)).rising i j l m

-- the stations of rows one behind the other
pub on_append : (x y : List OperatorRow) → stations_on (x ++ y) ≡ stations_on x + stations_on y
unfolding stations_on
on_append [] y = omega arith
on_append (z ∷ x) y = omega (arith, on_append x y)

on_row : (c : ℕ) (t : Tally) → stations_on (row_if_any c t) ≡ t.stations
unfolding row_if_any stations_on
on_row c t = by (eqb t.stations 0) refl
  where
    by : (b : Bool) → eqb t.stations 0 ≡ b → stations_on (cond b [] (operator_row c t ∷ [])) ≡ t.stations
    by true e = sym (eqb-true t.stations 0 e)
    by false e = omega arith

on-rows : (f : ℕ → Tally) (k : ℕ) → stations_on (rows_below f k) ≡ sum_to (λ c. (f c).stations) k
unfolding rows_below stations_on sum_to
on-rows f zero = refl
on-rows f (suc k) = on_append (rows_below f k) (row_if_any k (f k)) ∙ omega (arith, on-rows f k, on_row k (f k))

-- The station counts add up to the stations with code 0 in the file.
pub adds_up : (file : List ℕ) → stations_on (page_of file) ≡ count (λ k. eqb (code_at file k) 0) (stations file)
unfolding page_of
adds_up file = on-rows (tally_of (heard_at file) (stations file)) operators ∙ sum_good file (stations file)
