-- `explaining::put_sheet` meets its contract: the header, the rows and the total, one behind the other.
use Rattle.printing.proofs.AppendLaws.{then}
use Rattle.explaining.specs.Explanations.{sheet_explained}
use Rattle.explaining.proofs.put_sheet.Goals as goal

pub returns : goal.returns
unfolding sheet_explained
returns c =
    rw (← c.head_code.ensures, ← c.found.ensures)
    (then c.put_header-header_end.ensures.appended (then c.put_rows-rows_end.ensures.appended c.put_total.ensures))
