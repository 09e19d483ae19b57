-- `printing::lines::put_refused` meets its contract: a number behind its label, and the end of the line.
use Rattle.printing.specs.Lines.{refused_line}
use Rattle.printing.proofs.AppendLaws.{then}
use Rattle.printing.proofs.lines.put_refused.Goals as goal

pub returns : goal.returns
unfolding refused_line
returns c = then c.put_labelled-end.ensures.appended c.put_text.ensures
