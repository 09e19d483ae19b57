-- The report of a file by its length: one line where it is refused, else the lines of its sheet.
use mathlib.Core.Path.{◌≡◌}
use mathlib.Core.Bool.{true, false}
use mathlib.Core.List.{List}
use Prim.Native.Nat.{ℕ}
use Rattle.basics.specs.Outcomes.{refusal, if_done}
use Rattle.basics.proofs.RefusalLaws.{done}
use Rattle.files.specs.Files.{stations}
use Rattle.files.specs.Calls.{length_outcome}
use Rattle.sheet.specs.Sheets.{sheet_of}
use Rattle.printing.specs.Lines.{refused_line}
use Rattle.reports.specs.Reports.{sheet_report, report_of}

-- A refused file has its one line,
pub refused_report : (file : List ℕ) → done (length_outcome file) ≡ false → report_of file ≡ refused_line (refusal (length_outcome file))
unfolding report_of if_done
refused_report file e = rw e

-- any other the lines of its sheet.
pub whole_report : (file : List ℕ) → done (length_outcome file) ≡ true → report_of file ≡ sheet_report (sheet_of file) (stations file)
unfolding report_of if_done
whole_report file e = rw e
