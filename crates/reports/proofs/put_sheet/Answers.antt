-- `reports::put_sheet` meets its contract: the header, the rows and the total, one behind the other.
use Rattle.reports.specs.Reports.{sheet_lines}
use Rattle.printing.proofs.AppendLaws.{then}
use Rattle.reports.proofs.put_sheet.Goals as goal

pub returns : goal.returns
unfolding sheet_lines
returns c =
    rw (← c.head_code.ensures, ← c.found.ensures)
    (then c.put_header-header_end.ensures.appended (then c.put_rows-rows_end.ensures.appended c.put_total.ensures))
