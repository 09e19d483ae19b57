-- The promise of a report leaves one answer and one content of the lent bytes.
use mathlib.Core.Path.{◌≡◌}
use mathlib.Core.List.{List}
use Prim.Native.Nat.{ℕ}
use Rattle.printing.proofs.Unique.{one_written}
use Rattle.reports.specs.Reports.{report_of}
use Rattle.reports.specs.Promises.{ReportWritten}

-- Two answers of `write_report` to one file and one buffer are equal, and so is what they leave there.
pub one_report : (file out : List ℕ) (r r' : ℕ) (after after' : List ℕ) → ReportWritten file out r after → ReportWritten file out r' after'
    → (r ≡ r') × (after ≡ after')
one_report file = one_written (report_of file)
