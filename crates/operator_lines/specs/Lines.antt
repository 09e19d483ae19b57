-- Document 02, wish 9: the lines that the program prints of the operators of a file, each ended by a line feed.
use Rattle.std.specs.Prelude.{ℕ, zero, suc, ◌+◌, ◌-◌, List, [], ◌∷◌, ◌++◌, length, get_or}
use Prim.Native.String.{String}
use Rattle.columns.specs.Texts.{bytes}
use Rattle.basics.specs.Outcomes.{refusal, if_done}
use Rattle.files.specs.Files.{stations}
use Rattle.forms.specs.Counting.{rows}
use Rattle.printing.specs.Lines.{line_feed, refused_line}
use Rattle.operator_counts.specs.Counts.{operators}
use Rattle.operator_pages.specs.declared.OperatorRow.{OperatorRow}
use Rattle.operator_pages.specs.declared.Page.{Page}
use Rattle.operator_pages.specs.Pages.{page_of, stations_on}
use Rattle.operator_pages.specs.Calls.{page_outcome, no_row, page_row}
use Rattle.operator_numbers.specs.Frequencies.{in_digits, extreme_text}

-- A number and the words before it.
abbrev pub counted : String → ℕ → List ℕ
counted label v = bytes label ++ in_digits v

-- `operator CC stations N transmit T`, where T of the N stations have a transmit frequency
unfoldable pub counts_text : List ℕ → ℕ → ℕ → List ℕ
counts_text code n t = bytes "operator " ++ (code ++ (counted " stations " n ++ counted " transmit " t))

-- An operator's line: these, and its lowest and highest transmit frequency.
unfoldable pub operator_line : OperatorRow → List ℕ
operator_line y =
    counts_text y.code y.tally.stations y.tally.transmitting
    ++ (extreme_text (bytes " lowest ") y.tally.lowest ++ (extreme_text (bytes " highest ") y.tally.highest ++ line_feed))

-- `operators N stations S of T`: so many operators and stations of theirs, of all stations in the file
unfoldable pub operators_line : ℕ → ℕ → ℕ → List ℕ
operators_line n s t = counted "operators " n ++ (counted " stations " s ++ (counted " of " t ++ line_feed))

-- The lines of the operators on a page of a file with so many stations, one after the other, and the total.
unfoldable pub row_lines : List OperatorRow → ℕ → List ℕ
row_lines page n = rows (λ k. operator_line (get_or page (k - 1) no_row)) (length page) ++ operators_line (length page) (stations_on page) n

-- What is printed of a file: the lines of its page, which has room for every operator, and on a refusal its one line.
unfoldable pub operators_of : List ℕ → List ℕ
operators_of file = if_done (page_outcome file operators) (row_lines (page_of file) (stations file)) (refused_line (refusal (page_outcome file operators)))

-- The same of a page as the code holds it: the line of row k, how many stations the first n rows have, and the lines of these.
abbrev pub page_line : Page → ℕ → List ℕ
page_line page k = operator_line (page_row page (k - 1))

abbrev pub page_sum : Page → ℕ → ℕ
page_sum page zero = 0
page_sum page (suc n) = page_sum page n + (page_row page n).tally.stations

unfoldable pub page_lines : Page → ℕ → ℕ → List ℕ
page_lines page n all = rows (page_line page) n ++ operators_line n (page_sum page n) all
