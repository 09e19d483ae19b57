-- What the call that writes a report promises.
use Rattle.std.specs.Prelude.{ℕ, List}
use Rattle.printing.specs.Promises.{Written}
use Rattle.reports.specs.Reports.{report_of}

-- `write_report`: the report's length, and the report before the bytes that stood behind its end.
abbrev pub ReportWritten : List ℕ → List ℕ → ℕ → List ℕ → Type 0
ReportWritten file out answer after = Written (report_of file) out answer after
