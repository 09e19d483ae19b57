-- `printing::lines::put_total` meets its contract: two numbers behind their labels, and the end of the line.
use Rattle.printing.specs.Lines.{total_line}
use Rattle.printing.proofs.AppendLaws.{then}
use Rattle.printing.proofs.lines.put_total.Goals as goal

pub returns : goal.returns
unfolding total_line
returns c = then c.put_labelled-end.ensures.appended (then c.put_labelled-found_end.ensures.appended c.put_text.ensures)
