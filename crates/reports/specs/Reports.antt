-- Document 01, "The sheet": what the program prints of a file.
use Rattle.std.specs.Prelude.{ℕ, List, ◌++◌}
use Rattle.basics.specs.Outcomes.{refusal, if_done}
use Rattle.files.specs.Files.{stations}
use Rattle.files.specs.Calls.{length_outcome}
use Rattle.forms.specs.Counting.{count, rows}
use Rattle.forms.specs.OwnForm.{bad, head_in}
use Rattle.sheet.specs.Sheets.{sheet_of}
use Rattle.report_rows.specs.Rows.{row_line}
use Rattle.printing.specs.Lines.{refused_line, header_line, total_line}

-- The lines of a sheet of n rows of which so many are bad: the header's code, the bad rows ascending, and both numbers.
unfoldable pub sheet_lines : List ℕ → ℕ → ℕ → List ℕ
sheet_lines sheet n found = header_line (head_in sheet n) ++ (rows (row_line sheet) n ++ total_line n found)

-- The lines of a sheet of n rows.
unfoldable pub sheet_report : List ℕ → ℕ → List ℕ
sheet_report sheet n = sheet_lines sheet n (count (bad sheet) n)

-- The report of a file: the lines of the sheet judged from it, and on a refusal its one line.
unfoldable pub report_of : List ℕ → List ℕ
report_of file = if_done (length_outcome file) (sheet_report (sheet_of file) (stations file)) (refused_line (refusal (length_outcome file)))
