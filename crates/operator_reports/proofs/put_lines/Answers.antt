-- `operator_reports::put_lines` meets its contract: the lines of the rows, and the total.
use Rattle.printing.proofs.AppendLaws.{then}
use Rattle.operator_lines.specs.Lines.{page_lines}
use Rattle.operator_reports.proofs.put_lines.Goals as goal

pub returns : goal.returns
unfolding page_lines
returns c = then c.put_operators-end.ensures.appended (rw c.stations_on-sum.ensures at c.put_operators_total.ensures)
