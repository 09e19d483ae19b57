-- Document 02, wish 7: what the program explains of a file, a line for each bad row of the sheet judged from it.
use Rattle.std.specs.Prelude.{ℕ, List, ◌++◌}
use Rattle.basics.specs.Outcomes.{refusal, if_done}
use Rattle.files.specs.Files.{stations}
use Rattle.forms.specs.Counting.{count, rows}
use Rattle.forms.specs.OwnForm.{bad, head_in}
use Rattle.sheet.specs.Sheets.{sheet_of}
use Rattle.printing.specs.Lines.{refused_line, header_line, total_line}
use Rattle.files.specs.Calls.{length_outcome}
use Rattle.explained_rows.specs.Rows.{row_explained}

-- The lines of a sheet of n rows of which so many are bad: the header's code, the bad rows ascending, and both numbers.
unfoldable pub sheet_explained : List ℕ → List ℕ → ℕ → ℕ → List ℕ
sheet_explained file sheet n found = header_line (head_in sheet n) ++ (rows (row_explained file sheet) n ++ total_line n found)

-- What is explained of a file: the lines of the sheet judged from it, and on a refusal its one line.
unfoldable pub explanation_of : List ℕ → List ℕ
explanation_of file =
    let n = stations file in
    if_done (length_outcome file) (sheet_explained file (sheet_of file) n (count (bad (sheet_of file)) n)) (refused_line (refusal (length_outcome file)))
