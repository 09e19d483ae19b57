-- Document 02, wish 9: a page per operator.
use Rattle.std.specs.Prelude.{ℕ, zero, suc, ◌+◌, cond, List, [], ◌∷◌, ◌++◌, eqb, get_or}
use Rattle.numerals.specs.Numbers.{spell_whole}
use Rattle.files.specs.Files.{stations}
use Rattle.operator_counts.specs.declared.Tally.{Tally}
use Rattle.operator_counts.specs.Counts.{operators, heard_at, tally_of, no_tally}
use Rattle.operator_pages.specs.declared.OperatorRow.{OperatorRow}

-- The row of operator c: its code as two digits, and what is counted of it,
abbrev pub operator_row : ℕ → Tally → OperatorRow
operator_row c t = record { code = spell_whole 2 c; tally = t }

-- none where it has no station.
unfoldable pub row_if_any : ℕ → Tally → List OperatorRow
row_if_any c t = cond (eqb t.stations 0) [] (operator_row c t ∷ [])

-- The rows of the operators below k, ascending, where f c is what is counted of operator c.
unfoldable pub rows_below : (ℕ → Tally) → ℕ → List OperatorRow
rows_below f zero = []
rows_below f (suc k) = rows_below f k ++ row_if_any k (f k)

-- What a table of tallies has of operator c.
abbrev pub tally_in : List Tally → ℕ → Tally
tally_in counts c = get_or counts c no_tally

-- The page of a file: a row for each operator code that has a station with code 0.
unfoldable pub page_of : List ℕ → List OperatorRow
page_of file = rows_below (tally_of (heard_at file) (stations file)) operators

-- How many stations the rows have together.
unfoldable pub stations_on : List OperatorRow → ℕ
stations_on [] = 0
stations_on (y ∷ rows) = y.tally.stations + stations_on rows
