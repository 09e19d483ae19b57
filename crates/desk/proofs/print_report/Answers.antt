-- `desk::print_report` is safe and ends: what it writes is within what the report was written into.
use mathlib.Core.Path.{sym}
use lib.Seq.{length-take-le}
use Rattle.printing.proofs.WriteLaws.{within}
use Rattle.desk.proofs.print_report.Goals as goal

pub slice_bounds-lines-end : goal.slice_bounds-lines-end
slice_bounds-lines-end c = within _ _ c.write_report-end.ensures

pub slice_bounds-write_all-end : goal.slice_bounds-write_all-end
slice_bounds-write_all-end c = sym (length-take-le c.write_report-end.result c.write_report-end.new.out (within _ _ c.write_report-end.ensures))
